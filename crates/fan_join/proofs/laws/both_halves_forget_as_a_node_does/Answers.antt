use Rattle.fan_join.proofs.Whole.{member_forget_law}
use Rattle.fan_join.proofs.laws.both_halves_forget_as_a_node_does.Goals as goal

pub returns : goal.returns
returns c = member_forget_law
