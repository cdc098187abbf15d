use Rattle.fold_fn.proofs.ResultLemmas.{result_same}
use Rattle.fold_fn.proofs.laws.order_law.Goals as goal

pub returns : goal.returns
returns c = result_same
