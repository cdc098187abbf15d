use Rattle.due_queue.proofs.Agreeing.{Agree-none}
use Rattle.due_queue.proofs.map.DueMap.new.Goals as goal

pub invariant_of-result : goal.invariant_of-result
invariant_of-result g c = Agree-none g.M.Ord.cmp g.K.Ord.cmp c.new.result.keys c.new-2.result.entries c.new.ensures.empty c.new-2.ensures.empty
