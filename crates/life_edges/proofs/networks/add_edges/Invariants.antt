use Rattle.life_edges.proofs.Common.{◌≡◌, ◌++◌, map, drop, net_edge}
use Rattle.life_edges.proofs.networks.add_edges.Given as goal

abbrev pub invariant-loop-edge : goal.invariant-loop-edge
invariant-loop-edge l = l.edges.items ++ map (net_edge l.tested l.named) (drop l.edge-index l.more) ≡ l.fn.edges.items ++ map (net_edge l.tested l.named) l.more
