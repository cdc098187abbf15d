use Rattle.fold_fn.proofs.LawLemmas.{least_is_least, greatest_is_greatest, floor_below, floor_above}
use Rattle.fold_fn.proofs.laws.result_law.Goals as goal

pub returns-clause-least : goal.returns-clause-least
returns-clause-least c = least_is_least

pub returns-clause-greatest : goal.returns-clause-greatest
returns-clause-greatest c = greatest_is_greatest

pub returns-clause-floor : goal.returns-clause-floor
returns-clause-floor c = λ sum n h. (floor_below sum n h, floor_above sum n h)
