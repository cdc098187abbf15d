use Rattle.rete_net.proofs.Common.{length, AreGrowing}
use Rattle.rete_net.proofs.fans.Fans.of.Given as goal

abbrev pub invariant-loop-parent : goal.invariant-loop-parent
invariant-loop-parent l = AreGrowing l.nodes l.fans (length l.fans.list.items)
