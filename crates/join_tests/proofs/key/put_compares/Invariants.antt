use Rattle.join_tests.proofs.Common.{◌≡◌, ◌++◌, drop, keys_of_compares}
use Rattle.join_tests.proofs.key.put_compares.Given as goal

abbrev pub invariant-loop-compare : goal.invariant-loop-compare
invariant-loop-compare l = l.keys.items ++ keys_of_compares (drop l.compare-index l.compares) ≡ l.initial.keys.items ++ keys_of_compares l.compares
