use Rattle.agenda.proofs.Common.{◌≡◌, ◌∙◌, ap, subst, ◌&&◌, ◌||◌, not, Some, ℕ, eq_by_cmp, Row, Match, has_match, match_cmp, fire_cmp, first, Marks, matches}
use Rattle.agenda.proofs.{Heads.{top_of}, Namings.{pop_counts}, Steps.{fired_put, pending_popped, well_parts}}
use Rattle.agenda.proofs.agenda.Agenda.fire_top.Goals as goal

pub returns-in_ok-insert-in-Some-clause-top : goal.returns-in_ok-insert-in-Some-clause-top
returns-in_ok-insert-in-Some-clause-top c =
    subst (λ (h : Marks). Some c.in-Some.ranked.matched ≡ first (fire_cmp h.saliences) h.pending) c.self.view_is
    (top_of c.self.inside.saliences c.self.inside.pending.keys c.pop_first.new.self.keys c.in-Some.ranked c.self.invariant.well c.len-n.ensures.ordered c.in-Some.ensures.removal)

pub returns-in_ok-insert-in-Some-clause-pending : goal.returns-in_ok-insert-in-Some-clause-pending
returns-in_ok-insert-in-Some-clause-pending c m =
    let p = well_parts c.self.inside.saliences c.self.inside.pending.keys c.pop_first.new.self.keys c.in-Some.ranked c.self.invariant.well c.in-Some.ensures.removal in
    let v : matches c.self.inside.pending.keys ≡ c.args.self.now.pending = ap (λ (h : Marks). h.pending) c.self.view_is in
    subst (λ ms. has_match (matches c.pop_first.new.self.keys) m ≡ (has_match ms m && not (eq_by_cmp match_cmp c.in-Some.ranked.matched m))) v
    (pending_popped c.self.inside.saliences c.in-Some.ranked c.self.inside.pending.keys c.pop_first.new.self.keys c.self.invariant.well p.1 p.0 c.in-Some.ensures.updates.0 m)

abbrev match_of : ℕ → Row → Match
match_of rule row = record { rule = record { 0 = rule }; row = row }

pub returns-in_ok-insert-in-Some-clause-fired : goal.returns-in_ok-insert-in-Some-clause-fired
returns-in_ok-insert-in-Some-clause-fired c m =
    let v : c.self.inside.fired.keys ≡ c.args.self.now.fired = ap (λ (h : Marks). h.fired) c.self.view_is in
    fired_put (match_of c.in-Some.ranked.matched.rule.0 c.in_ok-row-in-Some.row) c.self.inside.fired.keys c.insert.new.self.keys c.in_ok-insert-in-Some.ensures.updates.0 m
    ∙ ap (λ ms. has_match ms m || eq_by_cmp match_cmp (match_of c.in-Some.ranked.matched.rule.0 c.in_ok-row-in-Some.row) m) v
    ∙ ap (λ row. has_match c.args.self.now.fired m || eq_by_cmp match_cmp (match_of c.in-Some.ranked.matched.rule.0 row) m) c.in_ok-row-in-Some.ensures

-- where the copy is refused
pub invariant_of-self : goal.invariant_of-self
invariant_of-self c = record {
  well = (well_parts c.self.inside.saliences c.self.inside.pending.keys c.pop_first.new.self.keys c.in-Some.ranked c.self.invariant.well c.in-Some.ensures.removal).1;
  counts = pop_counts c.self.inside.named.entries c.lower_all.new.named.entries c.self.inside.pending.keys c.pop_first.new.self.keys c.in-Some.ranked c.in-Some.ensures.removal (simp c.as_slice.ensures at c.lower_all.ensures) c.self.invariant.counts;
}

-- where the mark is refused
pub invariant_of-self-in_err-insert-in-Some : goal.invariant_of-self-in_err-insert-in-Some
invariant_of-self-in_err-insert-in-Some c = record {
  well = (well_parts c.self.inside.saliences c.self.inside.pending.keys c.pop_first.new.self.keys c.in-Some.ranked c.self.invariant.well c.in-Some.ensures.removal).1;
  counts = pop_counts c.self.inside.named.entries c.lower_all.new.named.entries c.self.inside.pending.keys c.pop_first.new.self.keys c.in-Some.ranked c.in-Some.ensures.removal (simp c.as_slice.ensures at c.lower_all.ensures) c.self.invariant.counts;
}

pub invariant_of-self-in-Some : goal.invariant_of-self-in-Some
invariant_of-self-in-Some c = record {
  well = (well_parts c.self.inside.saliences c.self.inside.pending.keys c.pop_first.new.self.keys c.in-Some.ranked c.self.invariant.well c.in-Some.ensures.removal).1;
  counts = pop_counts c.self.inside.named.entries c.lower_all.new.named.entries c.self.inside.pending.keys c.pop_first.new.self.keys c.in-Some.ranked c.in-Some.ensures.removal (simp c.as_slice.ensures at c.lower_all.ensures) c.self.invariant.counts;
}
