use Rattle.fold_fn.proofs.Common.{◌≡◌, ◌++◌, repeated}
use Rattle.fold_fn.proofs.multiset.Multiset.values.Given as goal

abbrev pub invariant-loop-value : goal.invariant-loop-value
invariant-loop-value l = l.values.items ++ repeated l.value-iterator ≡ repeated l.initial.value-iterator
