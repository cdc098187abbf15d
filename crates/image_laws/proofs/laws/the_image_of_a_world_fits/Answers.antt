use Rattle.image_laws.proofs.Fit.{image_fits}
use Rattle.image_laws.proofs.laws.the_image_of_a_world_fits.Goals as goal

pub returns : goal.returns
returns c p table w image safe l is ids tags lines firings = image_fits p table w image safe l is ids tags lines firings
