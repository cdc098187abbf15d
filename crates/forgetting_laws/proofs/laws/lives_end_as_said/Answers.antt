use Rattle.forgetting_laws.proofs.Stepping.{end_law}
use Rattle.forgetting_laws.proofs.laws.lives_end_as_said.Goals as goal

pub returns : goal.returns
returns c = end_law
