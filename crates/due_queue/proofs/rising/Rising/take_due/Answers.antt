use Rattle.due_queue.{proofs.{Common.{◌∙◌, sym, ap, subst, refl, found, ◌<◌}, Entries.{none_due_at, rises_rest, least_at, rest_at}}, specs.Rising.{live, Rises}}
use Rattle.due_queue.proofs.rising.Rising.take_due.Goals as goal

pub returns-then-is_past-clause-none : goal.returns-then-is_past-clause-none
returns-then-is_past-clause-none g c k =
    none_due_at g.met.M.Ord.total g.met.K.Ord.total c.args.bound.now c.args.self.now.entries.items c.in_ok-front.front.now c.in_ok-front.ensures.lookup c.requires.rises (sym c.is_past.ensures ∙ c.if-is_past.true) k

pub settle-requires : goal.settle-requires
settle-requires g c = subst (Rises g.M.Ord.cmp g.K.Ord.cmp) (sym c.pop_front.ensures.rest) (rises_rest g.M.Ord.cmp g.K.Ord.cmp c.args.self.now.entries.items c.requires.rises)

pub returns-clause-first : goal.returns-clause-first
returns-clause-first g c at key e =
    least_at g.met.M.Ord.total g.met.K.Ord.total c.args.self.now.entries.items c.in_ok-entry.entry at key c.in_ok-entry.ensures.lookup c.requires.rises e

pub returns-clause-kept : goal.returns-clause-kept
returns-clause-kept g c k =
    ap (λ waiting. found g.K.Ord.cmp waiting k) (c.settle.ensures.live ∙ ap live c.pop_front.ensures.rest)
    ∙ rest_at g.met.M.Ord.total g.met.K.Ord.total c.args.self.now.entries.items c.in_ok-entry.entry (subst (λ n. 0 < n) c.args.self.now.entries.ok.0 (c.in_ok-front.ensures.variant.0 refl)) c.in_ok-entry.ensures.lookup c.requires.rises k
