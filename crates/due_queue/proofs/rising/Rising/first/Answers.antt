use Rattle.due_queue.proofs.Common.{subst, refl, ◌<◌}
use Rattle.due_queue.proofs.rising.Rising.first.Goals as goal
use Rattle.due_queue.proofs.Entries.{least_at, waits_at}

pub returns-in-Some-clause-waits : goal.returns-in-Some-clause-waits
returns-in-Some-clause-waits g c =
    waits_at g.met.M.Ord.total g.met.K.Ord.total c.args.self.now.entries.items c.in-Some.entry.now (subst (λ n. 0 < n) c.args.self.now.entries.ok.0 (c.in-Some.ensures.variant.0 refl)) c.in-Some.ensures.lookup c.requires

pub returns-in-Some-clause-least : goal.returns-in-Some-clause-least
returns-in-Some-clause-least g c at key e =
    least_at g.met.M.Ord.total g.met.K.Ord.total c.args.self.now.entries.items c.in-Some.entry.now at key c.in-Some.ensures.lookup c.requires.rises e
