use Rattle.due_queue.proofs.{Common.{◌≡◌, ◌∙◌, sym, true, false}, Agreeing.{paired, not_empty}}
use Rattle.due_queue.proofs.map.DueMap.first.Goals as goal

pub returns-in-Some-clause-waits : goal.returns-in-Some-clause-waits
returns-in-Some-clause-waits g c =
    sym (paired g.M.Ord.cmp g.K.Ord.cmp c.self.inside.by_moment.keys c.self.inside.kept.entries c.args.self.now c.self.invariant c.self.view_is c.in-Some.pair.now) ∙ c.in-Some.ensures.member

pub returns-in-Some-clause-least : goal.returns-in-Some-clause-least
returns-in-Some-clause-least g c at key e =
    c.in-Some.ensures.least (at, key) (paired g.M.Ord.cmp g.K.Ord.cmp c.self.inside.by_moment.keys c.self.inside.kept.entries c.args.self.now c.self.invariant c.self.view_is (at, key) ∙ e)

pub returns-in-None-clause-least : goal.returns-in-None-clause-least
returns-in-None-clause-least g c at key e =
    let torn : false ≡ true = c.in-None.ensures.variant.1 (not_empty _ c.self.inside.by_moment.keys (paired g.M.Ord.cmp g.K.Ord.cmp c.self.inside.by_moment.keys c.self.inside.kept.entries c.args.self.now c.self.invariant c.self.view_is (at, key) ∙ e)) in
    absurd (cc)
