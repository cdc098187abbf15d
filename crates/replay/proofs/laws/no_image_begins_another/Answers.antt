use Rattle.replay.proofs.Taken.{none_begins}
use Rattle.replay.proofs.laws.no_image_begins_another.Goals as goal

pub returns : goal.returns
returns c = none_begins
