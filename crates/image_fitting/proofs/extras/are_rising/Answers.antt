use Rattle.image_fitting.proofs.Telling.{rising_is}
use Rattle.image_fitting.proofs.extras.are_rising.Goals as goal

pub returns : goal.returns
returns c = rising_is c.args.values.now c.is_sorted.result c.is_sorted.ensures.cases
