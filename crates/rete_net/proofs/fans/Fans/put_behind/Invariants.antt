use Rattle.rete_net.proofs.Common.{GrowsTo}
use Rattle.rete_net.proofs.fans.Fans.put_behind.Given as goal

abbrev pub invariant-loop-child : goal.invariant-loop-child
invariant-loop-child l = GrowsTo l.nodes l.from l.fn.self l.self
