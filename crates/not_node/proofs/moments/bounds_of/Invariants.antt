use Rattle.not_node.proofs.Common.{◌≡◌, ◌++◌, drop, option_map, bound_in, bounds_of}
use Rattle.not_node.proofs.moments.bounds_of.Given as goal

abbrev pub invariant-loop-test : goal.invariant-loop-test
invariant-loop-test g l = option_map (λ bs. l.bounds.items ++ bs) (bounds_of (bound_in (g.F.Facts.map l.facts) l.row) (drop l.test-index l.tests)) ≡ bounds_of (bound_in (g.F.Facts.map l.facts) l.row) l.tests
