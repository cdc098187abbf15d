use Rattle.image_change.proofs.Changed.{changed_is_image}
use Rattle.image_change.proofs.laws.the_changed_image_is_of_the_changed_world.Goals as goal

pub returns : goal.returns
returns c = changed_is_image
