use Rattle.not_node.proofs.Quiet.{quiet_law}
use Rattle.not_node.proofs.laws.a_floor_alone_ripens_what_is_due.Goals as goal

pub returns : goal.returns
returns c = quiet_law
