use Rattle.desk_read.proofs.Commands.{question_asked}
use Rattle.desk_read.proofs.laws.a_question_is_no_command.Goals as goal

pub returns : goal.returns
returns k line q found = question_asked line q found
