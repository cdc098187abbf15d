use Rattle.fan_join.proofs.Whole.{empty_law}
use Rattle.fan_join.proofs.laws.an_empty_member_stands_for_nothing.Goals as goal

pub returns : goal.returns
returns c = empty_law
