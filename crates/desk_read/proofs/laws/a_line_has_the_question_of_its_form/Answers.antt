use Rattle.desk_read.proofs.QuestionLaws.{form_asked, asked_form, asked_formless, formless_asked}
use Rattle.desk_read.proofs.laws.a_line_has_the_question_of_its_form.Goals as goal

pub returns-clause-question : goal.returns-clause-question
returns-clause-question k line q = (asked_form line q, form_asked line q)

pub returns-clause-none : goal.returns-clause-none
returns-clause-none k line = (asked_formless line, formless_asked line)
