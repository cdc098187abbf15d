use Rattle.expiry_infer.proofs.Matching.{can_match_is_exact}
use Rattle.expiry_infer.proofs.laws.what_can_match_is_known.Goals as goal

pub returns : goal.returns
returns c = can_match_is_exact
