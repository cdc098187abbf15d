use Rattle.join_memory.proofs.Steps.{steps_law}
use Rattle.join_memory.proofs.laws.a_step_leads_to_the_new_sets.Goals as goal

pub returns : goal.returns
returns c = steps_law (Unit {0})
