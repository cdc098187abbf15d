use Rattle.rete_net.proofs.{Common.{Bool, Named, Program, Snapshot, HasAllOf, shown_nodes, NetStands}, Counting.{AreFirst}}
use Rattle.rete_net.proofs.net.Rete.extras.Given as goal

abbrev pub invariant-loop-place : goal.invariant-loop-place
invariant-loop-place g l =
    (p : Program) (s : Snapshot) (forgotten : Named → Bool) (stands : NetStands p l.self s forgotten) → HasAllOf (g.F.Facts.map l.facts) s forgotten
    → AreFirst p (shown_nodes l.self) l.self.ends.items stands.nodes.shape l.self.owners.items stands.nodes.owned s forgotten l.place l.all.items
