use Rattle.join_tests.proofs.Common.{◌≡◌, drop, keys_of_compares, and_more}
use Rattle.join_tests.proofs.key.with_compares.Given as goal

abbrev pub invariant-loop-compare : goal.invariant-loop-compare
invariant-loop-compare l = and_more l.keying (keys_of_compares (drop l.compare-index l.compares)) ≡ and_more l.fn.before (keys_of_compares l.compares)
