use Rattle.session.proofs.Common.{◌∙◌, List, refl, sym, ap, subst, to_z, of_z, w64, IsStrictlySortedBy, FiredMatch, Image, match_cmp, match_fired, ArePadded}
use Rattle.{session.proofs.Common.{IsSessionSaved, Contents, clock_same, facts_of}, std.proofs.Common.{map as list_map}, laden_rows.specs.Extras.{AreExtras}}
use Rattle.session.proofs.state.State.saved_apart.Goals as goal

pub returns-clause-saved : goal.returns-clause-saved
returns-clause-saved c facts same =
    let k = c.self.inside in
    let image : Image = record {
      run = c.args.run;
      clock = to_z w64 (of_z w64 k.clock);
      begun = c.begun.result;
      last_starts = c.from_vec.result;
      promises = c.from_vec-2.result;
      next_id = k.next_id;
      next_tag = k.next_tag;
      facts = facts;
      fired = c.from_vec-4.result;
      extras = c.from_vec-5.result;
    } in
    subst (λ (z : Contents). IsSessionSaved z c.args.entries c.args.net.now image) c.self.view_is (record {
      clock = clock_same k.clock c.self.invariant.clock_low c.self.invariant.clock_high;
      begun = c.begun.ensures;
      last_starts = subst (ArePadded k.course.last_starts c.args.entries) (sym c.from_vec.ensures) c.in_ok-last_starts.ensures;
      promises = subst (ArePadded k.course.promises c.args.entries) (sym c.from_vec-2.ensures) c.in_ok-promises.ensures;
      next_id = refl;
      next_tag = refl;
      facts = same ∙ ap (λ (z : Contents). facts_of z.facts) (sym c.self.view_is);
      fired = ap (list_map match_fired) c.from_vec-4.ensures ∙ c.in_ok-fired.ensures.matches;
      fired_in_order = subst (λ (ms : List FiredMatch). IsStrictlySortedBy match_cmp (list_map match_fired ms)) (sym c.from_vec-4.ensures) c.in_ok-fired.ensures.order;
      extras = λ p s forgotten stands has. subst (AreExtras p s forgotten) (sym c.from_vec-5.ensures) (c.in_ok-extras.ensures p s forgotten stands has);
    })
