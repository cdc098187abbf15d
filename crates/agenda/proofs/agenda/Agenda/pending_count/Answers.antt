use Rattle.{agenda.proofs.{Common.{subst, Marks, fire_cmp}, Ranks.{sorted_matches}}, std.specs.List.Sorted.{IsStrictlySortedBy}}
use Rattle.agenda.proofs.agenda.Agenda.pending_count.Goals as goal

pub returns-clause-order : goal.returns-clause-order
returns-clause-order c =
    subst (λ (h : Marks). IsStrictlySortedBy (fire_cmp h.saliences) h.pending) c.self.view_is
    (sorted_matches c.self.inside.saliences c.self.inside.pending.keys c.self.invariant.well c.len.ensures.ordered)
