use Rattle.join_tests.proofs.Common.{◌≡◌, drop, is_some, versions_at}
use Rattle.join_tests.proofs.joins.are_at_hand.Given as goal

abbrev pub invariant-loop-named : goal.invariant-loop-named
invariant-loop-named g l = is_some (versions_at (g.F.Facts.map l.facts) (drop l.named-index l.names)) ≡ is_some (versions_at (g.F.Facts.map l.facts) l.names)
