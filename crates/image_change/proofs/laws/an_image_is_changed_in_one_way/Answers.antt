use Rattle.image_change.proofs.One.{changed_is_one}
use Rattle.image_change.proofs.laws.an_image_is_changed_in_one_way.Goals as goal

pub returns : goal.returns
returns c = changed_is_one
