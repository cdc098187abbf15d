use Rattle.retention.proofs.Leaving.{left_law}
use Rattle.retention.proofs.laws.what_is_no_longer_named_has_left.Goals as goal

pub returns : goal.returns
returns c = left_law
