use Rattle.due_queue.proofs.{Agreeing.{paired}, Due.{AreDuePairs-front}}
use Rattle.due_queue.proofs.map.DueMap.due_pairs.Goals as goal

pub returns : goal.returns
returns g c =
    AreDuePairs-front g.M.Ord.cmp g.K.Ord.cmp g.met.M.Ord.total c.args.bound.now g.met.K.Ord.total c.self.inside.by_moment.keys c.args.self.now
    (paired g.M.Ord.cmp g.K.Ord.cmp c.self.inside.by_moment.keys c.self.inside.kept.entries c.args.self.now c.self.invariant c.self.view_is)
    c.in_ok-pairs.ensures.sorted c.in_ok-pairs.pairs.items c.in_ok-pairs.ensures.front
