use Rattle.fact_store.proofs.Others.{Walks, rank}
use Rattle.fact_store.proofs.store.holds_type.Given as goal

abbrev pub invariant-loop-next : goal.invariant-loop-next
invariant-loop-next l = Walks l.slots l.by_tag l.by_id l.ty l.id l.next

abbrev pub decreases-loop-next : goal.decreases-loop-next
decreases-loop-next l = rank l.next
