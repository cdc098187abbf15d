use Rattle.image_change.proofs.Told.{pending_is_told}
use Rattle.image_change.proofs.laws.pending_is_told.Goals as goal

pub returns : goal.returns
returns c = pending_is_told
