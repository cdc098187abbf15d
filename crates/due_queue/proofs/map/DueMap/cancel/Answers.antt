use Rattle.due_queue.proofs.{Common.{sym, tied_itself}, Agreeing.{Agree-go}}
use Rattle.due_queue.proofs.map.DueMap.cancel.Goals as goal

pub invariant_of-self-2 : goal.invariant_of-self-2
invariant_of-self-2 g c =
    Agree-go g.met.M.Ord.total g.met.K.Ord.total c.self.inside.by_moment.keys c.self.inside.kept.entries c.self.invariant c.in_ok-one.one.0 c.args.key
    c.remove-2.new.self.keys c.remove.new.self.entries c.in_ok-one.one (sym c.in_ok-one.ensures.value) (tied_itself g.met.M.Ord.total c.in_ok-one.one.0)
    c.remove-2.ensures.updates.0 c.in_ok-one.ensures.updates.0
