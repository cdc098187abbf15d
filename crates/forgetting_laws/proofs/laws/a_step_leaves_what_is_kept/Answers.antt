use Rattle.forgetting_laws.proofs.Stepping.{step_law}
use Rattle.forgetting_laws.proofs.laws.a_step_leaves_what_is_kept.Goals as goal

pub returns : goal.returns
returns c = step_law
