use Rattle.fan_join.proofs.Whole.{member_step_law}
use Rattle.fan_join.proofs.laws.both_halves_are_the_step_of_a_node.Goals as goal

pub returns : goal.returns
returns c = member_step_law
