use Rattle.join_memory.proofs.Steps.{forgets_law}
use Rattle.join_memory.proofs.laws.forgetting_keeps_the_sets.Goals as goal

pub returns : goal.returns
returns c = forgets_law (Unit {0})
