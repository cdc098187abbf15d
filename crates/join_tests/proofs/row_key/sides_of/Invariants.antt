use Rattle.join_tests.proofs.Common.{◌≡◌, ◌++◌, drop, map, row_side_of}
use Rattle.join_tests.proofs.row_key.sides_of.Given as goal

abbrev pub invariant-loop-key : goal.invariant-loop-key
invariant-loop-key l = l.sides.items ++ map row_side_of (drop l.key-index l.keys) ≡ map row_side_of l.keys
