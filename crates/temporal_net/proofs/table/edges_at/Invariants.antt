use Rattle.temporal_net.proofs.Common.{◌≡◌, map, take, edge_at}
use Rattle.temporal_net.proofs.table.edges_at.Given as goal

abbrev pub invariant-loop-number : goal.invariant-loop-number
invariant-loop-number l = l.taken.items ≡ map (edge_at l.edges) (take l.number-index l.numbers)
