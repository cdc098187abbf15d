use Rattle.row_change.proofs.Alike.{difference_alike}
use Rattle.row_change.proofs.laws.sets_that_answer_alike_have_the_same_difference.Goals as goal

pub returns : goal.returns
returns c = difference_alike
