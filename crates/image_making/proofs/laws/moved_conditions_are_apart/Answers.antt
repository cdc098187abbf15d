use Rattle.image_making.proofs.Apart.{moves_apart}
use Rattle.image_making.proofs.laws.moved_conditions_are_apart.Goals as goal

pub returns : goal.returns
returns c = moves_apart
