use Rattle.due_queue.proofs.{Common.{sym}, Agreeing.{Agree-come, Agree-back, Agree-move}}
use Rattle.due_queue.proofs.map.DueMap.put.Goals as goal

pub invariant_of-self-in-Ok-Some : goal.invariant_of-self-in-Ok-Some
invariant_of-self-in-Ok-Some g c =
    Agree-move g.met.M.Ord.total g.met.K.Ord.total c.self.inside.by_moment.keys c.self.inside.kept.entries c.self.invariant c.args.at c.args.key
    c.insert.new.self.keys c.leave.new.pairs.keys c.insert-2.new.self.entries c.args.value c.in-Ok-Some.before (sym (rw c.in-Ok-Some.field-0-is at c.in-Ok-Some.ensures.old))
    c.in_ok-insert.ensures.updates.0 c.leave.ensures c.in-Ok-Some.ensures.updates.0

pub invariant_of-self-in-Ok-None : goal.invariant_of-self-in-Ok-None
invariant_of-self-in-Ok-None g c =
    Agree-come g.met.M.Ord.total g.met.K.Ord.total c.self.inside.by_moment.keys c.self.inside.kept.entries c.self.invariant c.args.at c.args.key
    c.insert.new.self.keys c.insert-2.new.self.entries c.args.value (sym (rw c.in-Ok-None.field-0-is at c.in-Ok-None.ensures.old)) c.in_ok-insert.ensures.updates.0 c.in-Ok-None.ensures.updates.0

pub invariant_of-self-in-Err : goal.invariant_of-self-in-Err
invariant_of-self-in-Err g c =
    Agree-back g.met.M.Ord.total g.met.K.Ord.total c.self.inside.by_moment.keys c.self.inside.kept.entries c.self.invariant c.args.at c.args.key
    c.insert.new.self.keys c.remove.new.self.keys c.insert-2.new.self.entries c.in-Err.ensures.absent c.in_ok-insert.ensures.updates.0 c.remove.ensures.updates.0 c.in-Err.ensures.err
