use Rattle.agenda.proofs.{Common.{◌≡◌, subst, Some, Marks, first, fire_cmp}, Heads.{top_is}}
use Rattle.agenda.proofs.agenda.Agenda.top.Goals as goal

pub returns-in-Some : goal.returns-in-Some
returns-in-Some c =
    subst (λ (h : Marks). Some c.in-Some.ranked.now.matched ≡ first (fire_cmp h.saliences) h.pending) c.self.view_is
    (top_is c.self.inside.saliences c.self.inside.pending.keys c.in-Some.ranked.now c.self.invariant.well c.len-n.ensures.ordered c.in-Some.ensures.first)
