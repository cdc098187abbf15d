use Rattle.temporal_net.proofs.Common.{◌≡◌, length, AreTable}
use Rattle.temporal_net.proofs.net.Net.solve.Given as goal

abbrev pub invariant-loop-via : goal.invariant-loop-via
invariant-loop-via l = record {
  tall : length l.rows.items ≡ l.points;
  table : AreTable l.via l.edges l.rows.items;
}
