use Rattle.agenda.proofs.Common.{◌≡◌, ◌∙◌, ap, subst, ◌==◌, ◌&&◌, not, eq_by_cmp, row_cmp, has_match, match_of, Marks, AllWell, matches, ranked_of, Ranked}
use Rattle.agenda.proofs.{Ranks.{well_of}, Steps.{pending_taken, fired_taken}}
use Rattle.agenda.proofs.agenda.Agenda.take_row.Goals as goal

pub invariant_of-self : goal.invariant_of-self
invariant_of-self c = record {
  well = c.take_ranked.ensures.well c.self.inside.saliences c.self.invariant.well;
  counts = c.take_ranked.ensures.named c.self.invariant.counts;
}

pub returns-clause-pending : goal.returns-clause-pending
returns-clause-pending c m =
    let s = c.self.inside.saliences in
    let row = c.args.row in
    let k = c.of-ranked.result in
    let made : k ≡ ranked_of s (match_of c.args.rule.0 row) = c.of-ranked.ensures ∙ ap (λ z. ranked_of z (match_of c.args.rule.0 row)) c.as_slice.ensures in
    let n : AllWell s c.take_ranked.new.pending.keys = c.take_ranked.ensures.well s c.self.invariant.well in
    let v : matches c.self.inside.pending.keys ≡ c.args.self.now.pending = ap (λ (h : Marks). h.pending) c.self.view_is in
    subst (λ ms. has_match (matches c.take_ranked.new.pending.keys) m ≡ (has_match ms m && not (c.args.rule.0 == m.rule.0 && eq_by_cmp row_cmp row m.row))) v
    (pending_taken s k c.self.inside.pending.keys c.take_ranked.new.pending.keys c.args.rule.0 row c.self.invariant.well n (well_of s k (match_of c.args.rule.0 row) made)
    (ap (λ (z : Ranked). z.matched.rule.0) made) (ap (λ (z : Ranked). z.matched.row) made) c.take_ranked.ensures.updates m)

pub returns-clause-fired : goal.returns-clause-fired
returns-clause-fired c m =
    let row = c.args.row in
    let v : c.self.inside.fired.keys ≡ c.args.self.now.fired = ap (λ (h : Marks). h.fired) c.self.view_is in
    subst (λ ms. has_match c.remove.new.self.keys m ≡ (has_match ms m && not (c.args.rule.0 == m.rule.0 && eq_by_cmp row_cmp row m.row))) v
    (fired_taken c.of-ranked.result.matched c.self.inside.fired.keys c.remove.new.self.keys c.args.rule.0 row
    (ap (λ (z : Ranked). z.matched.rule.0) c.of-ranked.ensures) (ap (λ (z : Ranked). z.matched.row) c.of-ranked.ensures) c.remove.ensures.updates.0 m)
