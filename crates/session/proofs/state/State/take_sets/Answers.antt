use Rattle.session.proofs.Common.{◌≡◌, ◌∙◌, ◌+◌, Some, None, option_map, sym, subst, ap, to_z, of_z, w64, arith, on_ok_weaker, Fact, Modify, modify_fault}
use Rattle.session.proofs.Common.{stepped, is_tag_among, HasLeft, IsNewestTag, newest, Contents, Standing, IsSound, clock_same, fresh_less, safe_again, got_new}
use Rattle.{session.proofs.Common.{◌++◌, Option, on_ok, contents, followed_sound, instant_of}, session_model.specs.Gives.{modified_lines, revision}}
use Rattle.session_model.proofs.Revising.{modify_awaits, modify_leads_on}
use Rattle.std.specs.FinMap as map
use Rattle.session.proofs.Stops.{safe_given}
use Rattle.session.proofs.state.State.take_sets.Goals as goal

pub put_fact-requires : goal.put_fact-requires
put_fact-requires c = ap (λ (f : Fact). map.get c.self.inside.facts f.tag.0) c.in_ok-after.ensures ∙ c.self.invariant.fresh c.self.inside.next_tag (omega arith)

-- where the fact is refused
pub invariant_of-self : goal.invariant_of-self
invariant_of-self c =
    let at : c.in_ok-after.after.tag.0 ≡ c.self.inside.next_tag = ap (λ (f : Fact). f.tag.0) c.in_ok-after.ensures in
    safe_given c.self.inside.facts c.put_fact.new.facts c.self.inside.expiries c.self.inside.clock c.self.inside.next_id c.self.inside.next_tag c.in_ok-after.after c.self.invariant at c.in_err-put_fact.ensures.err

-- where the network or the agenda is
pub invariant_of-self-in_err-left : goal.invariant_of-self-in_err-left
invariant_of-self-in_err-left c =
    let at : c.in_ok-after.after.tag.0 ≡ c.self.inside.next_tag = ap (λ (f : Fact). f.tag.0) c.in_ok-after.ensures in
    safe_again c.self.inside.facts c.put_fact.new.facts c.self.inside.expiries c.self.inside.clock c.self.inside.next_id c.self.inside.next_tag c.in_ok-after.after c.self.invariant at c.in_ok-put_fact.ensures.ok

pub invariant_of-self-2 : goal.invariant_of-self-2
invariant_of-self-2 c =
    let at : c.in_ok-after.after.tag.0 ≡ c.self.inside.next_tag = ap (λ (f : Fact). f.tag.0) c.in_ok-after.ensures in
    let more = safe_again c.self.inside.facts c.put_fact.new.facts c.self.inside.expiries c.self.inside.clock c.self.inside.next_id c.self.inside.next_tag c.in_ok-after.after c.self.invariant at c.in_ok-put_fact.ensures.ok in
    fresh_less c.put_fact.new.facts c.take_fact.new.facts c.self.inside.expiries c.self.inside.clock c.self.inside.next_id (c.self.inside.next_tag + 1) c.args.tag.0 more c.take_fact.ensures

pub returns-clause-stands : goal.returns-clause-stands
returns-clause-stands c = on_ok_weaker c.settle.result (λ settled w st none lawful.
    let s = c.args.setting.now in
    let m = c.args.memory.now in
    let k = (contents c.self.inside.facts c.self.inside.expiries c.self.inside.clock c.self.inside.course c.self.inside.agenda c.self.inside.next_id c.self.inside.next_tag) in
    let here : Standing s m k w = subst (λ (k : Contents). Standing s m k w) (sym c.self.view_is) st in
    let same : to_z w64 (of_z w64 c.self.inside.clock) ≡ c.self.inside.clock = clock_same c.self.inside.clock c.self.invariant.clock_low c.self.invariant.clock_high in
    let is : IsNewestTag c.self.inside.facts c.args.id.0 c.args.tag = subst (λ (k : Contents). IsNewestTag k.facts c.args.id.0 c.args.tag) (sym c.self.view_is) c.requires.tag in
    let plain : modify_fault s.program (newest k c.args.id.0) ≡ None = subst (λ (k : Contents). modify_fault s.program (newest k c.args.id.0) ≡ None) (sym c.self.view_is) c.requires.plain in
    let taken : Some c.unwrap-before.result.now ≡ map.get c.self.inside.facts c.args.tag.0 = ap (option_map (λ f. f.now)) (sym c.unwrap-before.ensures) ∙ c.fact.ensures in
    let facts = c.put_fact.new.facts in
    let after = c.in_ok-after.after in
    let at : after.tag.0 ≡ c.self.inside.next_tag = ap (λ (f : Fact). f.tag.0) c.in_ok-after.ensures in
    let come : option_map (λ f. f.now) c.fact-2.result ≡ Some after =
    c.fact-2.ensures ∙ ap (map.get facts) (sym at) ∙ ap (λ m. map.get m after.tag.0) c.in_ok-put_fact.ensures.ok ∙ got_new c.self.inside.facts after in
    let b = c.follow.new.agenda in
    let both = map.insert here.seen.all after.tag.0 after in
    let behind = map.remove both c.args.tag.0 in
    let leads = modify_leads_on s m k w here c.args.id c.args.tag is c.requires.runs c.args.sets plain none lawful c.unwrap-before.result.now after taken c.in_ok-after.ensures facts c.in_ok-put_fact.ensures.ok
    c.take_fact.new.facts c.take_fact.ensures b in
    let has_left : HasLeft k.agenda b (is_tag_among c.as_slice.result.now) = subst (λ tags. HasLeft k.agenda b (is_tag_among tags)) (sym c.as_slice.ensures.value) c.in_ok-left.ensures.left in
    settled (stepped s.program w (Modify c.args.id c.args.sets))
    (modify_awaits s m k w here c.args.id c.args.tag is c.requires.runs c.args.sets plain none lawful c.unwrap-before.result.now after taken c.in_ok-after.ensures facts c.in_ok-put_fact.ensures.ok
    c.take_fact.new.facts c.take_fact.ensures b c.follow.new.net (is_tag_among c.as_slice.result.now)
    ((simp (same, come, c.moment-moment.ensures.clock, c.moment-moment.ensures.last_starts, c.moment-moment.ensures.promises) at c.in_ok-left.ensures.net) here.seen.all behind both (instant_of k) here.seen.forgotten leads here.seen.stands)
    ((simp (same, come, c.moment-moment.ensures.clock, c.moment-moment.ensures.last_starts, c.moment-moment.ensures.promises) at c.in_ok-left.ensures.agenda) here.seen.all behind both (instant_of k) here.seen.forgotten leads here.seen.stands)
    has_left)) c.settle.ensures.stands

pub returns-clause-sound : goal.returns-clause-sound
returns-clause-sound c = on_ok_weaker c.settle.result
    (λ stays sound. stays (followed_sound c.args.setting.now c.args.memory.now _ (contents c.self.inside.facts c.self.inside.expiries c.self.inside.clock c.self.inside.course c.self.inside.agenda c.self.inside.next_id c.self.inside.next_tag) _ c.requires.runs
    (subst (IsSound c.args.setting.now.program c.args.memory.now) (sym c.self.view_is) sound) (c.in_ok-left.ensures.shape c.args.setting.now.program) c.in_ok-left.ensures.rules (λ r. r)))
    c.settle.ensures.sound

pub returns-clause-tags : goal.returns-clause-tags
returns-clause-tags c = on_ok_weaker c.settle.result (λ h. h ∙ ap (λ (k : Contents). k.next_tag + 1) c.self.view_is) c.settle.ensures.tags

pub returns-clause-lines : goal.returns-clause-lines
returns-clause-lines c =
    let d = c.args.setting.now.detail in
    let old = c.args.lines.now.items in
    let told : Contents → Type 0 = λ k. c.tell_modified.new.lines.items ≡ old ++ modified_lines d (revision k.next_tag c.args.sets (map.get k.facts c.args.tag.0)) in
    let taken : Some c.unwrap-before.result.now ≡ map.get c.self.inside.facts c.args.tag.0 = ap (option_map (λ f. f.now)) (sym c.unwrap-before.ensures) ∙ c.fact.ensures in
    on_ok c.settle.result (subst told c.self.view_is (c.in_ok-tell_modified.ensures ∙ ap (λ (f : Fact). old ++ modified_lines d (Some f)) c.in_ok-after.ensures
    ∙ ap (λ (o : Option Fact). old ++ modified_lines d (revision c.self.inside.next_tag c.args.sets o)) taken))
