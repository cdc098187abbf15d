use Rattle.forgetting_laws.proofs.Before.{kept_before_law}
use Rattle.forgetting_laws.proofs.laws.what_is_kept_was_kept.Goals as goal

pub returns : goal.returns
returns c = kept_before_law
