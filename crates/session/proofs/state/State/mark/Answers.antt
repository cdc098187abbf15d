use Rattle.session.proofs.Common.{◌≡◌, ◌∙◌, ◌==◌, ℕ, true, sym, subst, ap, not, list_any, Named, marked, names_tag, is_tag_among, Contents, Standing, IsSound}
use Rattle.{session.proofs.Common.{contents, eq_by_cmp, has_match, match_cmp, on_ok_weaker, Match, Option, Some}, rule_model.specs.First.{first}}
use Rattle.{rule_model.specs.Matches.{fire_cmp}, std.proofs.lemmas.Bool.{and_parts, or_right}, session_model.proofs.Marking.{marked_awaits}}
use Rattle.session.proofs.state.State.mark.Goals as goal

-- what is in place is one match
one_match : (a b : Match) (o : Option Match) → Some a ≡ o → Some b ≡ o → a ≡ b
one_match a b o e h = cc

pub returns-clause-stands : goal.returns-clause-stands
returns-clause-stands c = on_ok_weaker c.settle.result (λ settled w m_top st top.
    let s = c.args.setting.now in
    let m = c.args.memory.now in
    let k = (contents c.self.inside.facts c.self.inside.expiries c.self.inside.clock c.self.inside.course c.self.inside.agenda c.self.inside.next_id c.self.inside.next_tag) in
    let first_of : Contents → Option Match = λ z. first (fire_cmp z.agenda.saliences) z.agenda.pending in
    let here : Standing s m k w = subst (λ (k : Contents). Standing s m k w) (sym c.self.view_is) st in
    let q = c.in_ok-fired.fired in
    let names : (tag : ℕ) → names_tag tag q ≡ true → is_tag_among c.as_slice-2.result.now tag ≡ true = λ tag e.
    ap (λ tags. is_tag_among tags tag) c.as_slice-2.ensures.value ∙ c.in_ok-add_names.ensures tag
    ∙ or_right _ _ (ap (λ ns. list_any (λ (n : Named). tag == n.tag.0) ns) c.as_slice.ensures ∙ e) in
    subst (λ (x : Match). Standing s c.settle.new.memory c.settle.new.self (marked w x)) (one_match q m_top _ c.in_ok-fired.ensures.top (top ∙ ap first_of (sym c.self.view_is)))
    (settled (marked w q)
    (marked_awaits s m k w here q c.in_ok-fired.ensures.top c.fire_top.new.self c.in_ok-fired.ensures.saliences c.in_ok-fired.ensures.pending c.in_ok-fired.ensures.fired
    (is_tag_among c.as_slice-2.result.now) names))) c.settle.ensures.stands

pub returns-clause-sound : goal.returns-clause-sound
returns-clause-sound c = on_ok_weaker c.settle.result
    (λ stays sound.
    let here = subst (IsSound c.args.setting.now.program c.args.memory.now) (sym c.self.view_is) sound in
    stays (record {
      net = here.net;
      pending = λ q e. here.pending q (and_parts (has_match c.self.inside.agenda.pending q) (not (eq_by_cmp match_cmp c.in_ok-fired.fired q)) (sym (c.in_ok-fired.ensures.pending q) ∙ e)).0;
      reached = here.reached;
    })) c.settle.ensures.sound
