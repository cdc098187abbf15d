use Rattle.script_read.proofs.AskedLaws.{form_asked, unread_asked, formless_asked, asked_form, asked_unread, asked_formless}
use Rattle.script_read.proofs.laws.a_line_asks_for_what_its_form_says.Goals as goal

pub returns-clause-command : goal.returns-clause-command
returns-clause-command k line c = (asked_form line c, λ q. form_asked line q.0 c q.1 q.2)

pub returns-clause-bad_json : goal.returns-clause-bad_json
returns-clause-bad_json k line = (asked_unread line, unread_asked line)

pub returns-clause-bad_command : goal.returns-clause-bad_command
returns-clause-bad_command k line = (asked_formless line, λ q. formless_asked line q.0 q.1 q.2)
