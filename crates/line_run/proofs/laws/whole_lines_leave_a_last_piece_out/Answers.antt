use Rattle.line_run.proofs.Asking.{whole_before}
use Rattle.line_run.proofs.laws.whole_lines_leave_a_last_piece_out.Goals as goal

pub returns : goal.returns
returns c = whole_before
