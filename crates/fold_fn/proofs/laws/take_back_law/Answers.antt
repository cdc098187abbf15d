use Rattle.fold_fn.proofs.LawLemmas.{insert-injective}
use Rattle.fold_fn.proofs.laws.take_back_law.Goals as goal

pub returns : goal.returns
returns c = insert-injective
