use Rattle.due_queue.proofs.{Common.{◌≡◌, sym, Some, None, Bool, true, false, not}, Together.{none_due_least}}
use Rattle.due_queue.proofs.rising_map.RisingMap.is_due.Goals as goal

pub returns-in-Some : goal.returns-in-Some
returns-in-Some g c is k =
    none_due_least g.met.M.Ord.total g.K.Ord.cmp c.args.bound.now c.args.self.now (Some c.in-Some.first) c.in-Some.ensures.least (past c.is_past.result _ c.is_past.ensures is) k
  where
    past : (b p : Bool) → b ≡ p → not b ≡ false → p ≡ true
    past true p e f = sym e
    past false p e f = let g : true ≡ false = f in cc

pub returns-in-None : goal.returns-in-None
returns-in-None g c is k = none_due_least g.met.M.Ord.total g.K.Ord.cmp c.args.bound.now c.args.self.now None c.in-None.ensures.least tt k
