use Rattle.forgetting_laws.proofs.Stepping.{start_law}
use Rattle.forgetting_laws.proofs.laws.a_session_begins_with_what_is_kept.Goals as goal

pub returns : goal.returns
returns c = start_law
