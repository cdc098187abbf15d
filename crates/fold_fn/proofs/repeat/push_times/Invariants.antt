use Rattle.fold_fn.proofs.Common.{◌≡◌, ◌++◌, replicate}
use Rattle.fold_fn.proofs.repeat.push_times.Given as goal

abbrev pub invariant-loop : goal.invariant-loop
invariant-loop l = l.values.items ≡ l.fn.values.items ++ replicate l.counter l.value
