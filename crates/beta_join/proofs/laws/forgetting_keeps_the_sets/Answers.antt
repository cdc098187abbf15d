use Rattle.beta_join.proofs.Lawful.{forget_law}
use Rattle.beta_join.proofs.laws.forgetting_keeps_the_sets.Goals as goal

pub returns : goal.returns
returns c = forget_law (Unit {0})
