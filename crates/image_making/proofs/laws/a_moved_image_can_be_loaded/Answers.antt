use Rattle.image_making.proofs.Behind.{moved_can_be_loaded}
use Rattle.image_making.proofs.laws.a_moved_image_can_be_loaded.Goals as goal

pub returns : goal.returns
returns c = moved_can_be_loaded
