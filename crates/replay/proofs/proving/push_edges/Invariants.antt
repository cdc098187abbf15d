use Rattle.replay.proofs.Common.{◌≡◌, ◌++◌, take, flat_map, edge_text}
use Rattle.replay.proofs.proving.push_edges.Given as goal

abbrev pub invariant-loop-edge : goal.invariant-loop-edge
invariant-loop-edge l = l.text.items ≡ l.fn.text.items ++ flat_map edge_text (take l.edge-index l.edges)
