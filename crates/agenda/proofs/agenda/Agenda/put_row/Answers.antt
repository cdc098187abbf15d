use Rattle.agenda.proofs.Common.{◌≡◌, ◌∙◌, ap, subst, ◌==◌, ◌&&◌, ◌||◌, eq_by_cmp, row_cmp, has_match, match_of, Marks, Well, AllWell, matches, ranked_of}
use Rattle.agenda.proofs.{Common.{Ranked}, Ranks.{well_of}, Steps.{pending_put}, agenda.Agenda.put_row.Goals.{After-put_ranked}}
use Rattle.std.proofs.lemmas.Result.{on_ok_weaker}
use Rattle.agenda.proofs.agenda.Agenda.put_row.Goals as goal

made : (c : After-put_ranked) → c.of-ranked.result ≡ ranked_of c.self.inside.saliences (match_of c.args.rule.0 c.args.row)
made c = c.of-ranked.ensures ∙ ap (λ z. ranked_of z (match_of c.args.rule.0 c.args.row)) c.as_slice.ensures

is_well : (c : After-put_ranked) → Well c.self.inside.saliences c.of-ranked.result
is_well c = well_of c.self.inside.saliences c.of-ranked.result (match_of c.args.rule.0 c.args.row) (made c)

pub invariant_of-self : goal.invariant_of-self
invariant_of-self c = record {
  well = c.put_ranked.ensures.well c.self.inside.saliences c.self.invariant.well (is_well c);
  counts = c.put_ranked.ensures.named c.self.invariant.counts;
}

pub returns-clause-pending : goal.returns-clause-pending
returns-clause-pending c =
    let s = c.self.inside.saliences in
    let n : AllWell s c.put_ranked.new.pending.keys = c.put_ranked.ensures.well s c.self.invariant.well (is_well c) in
    let v : matches c.self.inside.pending.keys ≡ c.args.self.now.pending = ap (λ (h : Marks). h.pending) c.self.view_is in
    on_ok_weaker c.put_ranked.result
    (λ updates m.
    subst (λ ms. has_match (matches c.put_ranked.new.pending.keys) m ≡ (has_match ms m || (c.args.rule.0 == m.rule.0 && eq_by_cmp row_cmp c.args.row m.row))) v
    (pending_put s c.of-ranked.result c.self.inside.pending.keys c.put_ranked.new.pending.keys c.args.rule.0 c.args.row c.self.invariant.well n (is_well c)
    (ap (λ (z : Ranked). z.matched.rule.0) (made c)) (ap (λ (z : Ranked). z.matched.row) (made c)) updates m))
    c.put_ranked.ensures.updates
