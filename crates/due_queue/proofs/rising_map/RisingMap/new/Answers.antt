use Rattle.due_queue.proofs.Entries.{stands_none, apart_none}
use Rattle.due_queue.proofs.rising_map.RisingMap.new.Goals as goal

pub invariant_of-result : goal.invariant_of-result
invariant_of-result g c = (stands_none g.M.Ord.cmp g.K.Ord.cmp c.new.result.entries.items c.new.ensures, apart_none g.K.Ord.cmp c.new.result.entries.items c.new-2.result c.new.ensures)
