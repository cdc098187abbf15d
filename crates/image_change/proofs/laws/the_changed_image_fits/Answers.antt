use Rattle.image_change.proofs.Changed.{changed_fits}
use Rattle.image_change.proofs.laws.the_changed_image_fits.Goals as goal

pub returns : goal.returns
returns c = changed_fits
