use Rattle.join_tests.proofs.Common.{◌≡◌, drop, most_between}
use Rattle.join_tests.proofs.time_key.most_between.Given as goal

abbrev pub invariant-loop-edge : goal.invariant-loop-edge
invariant-loop-edge l = most_between l.x l.y (drop l.edge-index l.edges) ≡ most_between l.x l.y l.edges
