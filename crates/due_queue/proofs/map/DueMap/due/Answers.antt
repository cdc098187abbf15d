use Rattle.due_queue.proofs.Due.{AreDue-front}
use Rattle.due_queue.proofs.map.DueMap.due.Goals as goal

pub returns : goal.returns
returns g c =
    AreDue-front g.M.Ord.cmp g.K.Ord.cmp g.met.M.Ord.total c.args.bound g.met.K.Ord.total c.self.inside.by_moment.keys c.self.inside.kept.entries c.args.self.now c.self.invariant c.self.view_is
    c.in_ok-keys.ensures.sorted c.in_ok-keys.keys.items c.in_ok-keys.ensures.keys
