use Rattle.temporal_net.proofs.Common.{◌≡◌, length, take, AreTable}
use Rattle.temporal_net.proofs.net.direct_rows.Given as goal

abbrev pub invariant-loop-number : goal.invariant-loop-number
invariant-loop-number l = record {
  tall : length l.rows.items ≡ l.points;
  table : AreTable 0 (take l.number l.edges) l.rows.items;
}
