use Rattle.{due_queue.proofs.Common.{◌≡◌, ◌||◌, has_pair}, std.specs.Prelude.{take}}
use Rattle.due_queue.proofs.rising_map.insert_all.Given as goal

abbrev pub invariant-loop-one : goal.invariant-loop-one
invariant-loop-one g l = (pair : g.row.M.Denot × g.row.K.Denot) → has_pair g.M.Ord.cmp g.K.Ord.cmp l.all.keys pair
    ≡ (has_pair g.M.Ord.cmp g.K.Ord.cmp l.fn.all.keys pair || has_pair g.M.Ord.cmp g.K.Ord.cmp (take l.one-index l.fn.pairs) pair)
