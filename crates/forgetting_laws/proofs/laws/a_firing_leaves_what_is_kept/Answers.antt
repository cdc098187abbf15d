use Rattle.forgetting_laws.proofs.Firing.{fire_law}
use Rattle.forgetting_laws.proofs.laws.a_firing_leaves_what_is_kept.Goals as goal

pub returns : goal.returns
returns c = fire_law
