use Rattle.forgetting_laws.proofs.Stepping.{left_of_gone, drop_law}
use Rattle.forgetting_laws.proofs.laws.differences_tell_what_left_and_what_to_drop.Goals as goal

pub returns : goal.returns
returns c = record { left = left_of_gone; dropped = drop_law }
