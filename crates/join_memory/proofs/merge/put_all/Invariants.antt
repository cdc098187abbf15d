use Rattle.join_memory.proofs.Common.{◌≡◌, ◌||◌, list_any, eq_by_cmp}
use Rattle.join_memory.proofs.merge.put_all.Given as goal

-- with the keys to come, all are there
abbrev pub invariant-loop-key : goal.invariant-loop-key
invariant-loop-key g l = (k : g.row.K.Denot) → (list_any (eq_by_cmp g.K.Ord.cmp k) l.all.keys || list_any (eq_by_cmp g.K.Ord.cmp k) l.key-iterator.rest.items)
    ≡ (list_any (eq_by_cmp g.K.Ord.cmp k) l.initial.all.keys || list_any (eq_by_cmp g.K.Ord.cmp k) l.fn.keys.items)
