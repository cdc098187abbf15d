use Rattle.session.proofs.Common.{◌≡◌, true, sym, subst, to_z, of_z, w64, on_ok_weaker, Retract, is_of_type, stepped, is_tag_among, HasLeft, IsNewestTag}
use Rattle.session.proofs.Common.{newest, Contents, Standing, IsSound, clock_same, safe_less, contents, followed_sound, instant_of}
use Rattle.session_model.proofs.Removing.{retract_awaits, retract_leads_on}
use Rattle.std.specs.FinMap as map
use Rattle.session.proofs.state.State.take_away.Goals as goal

-- where the network or the agenda is refused
pub invariant_of-self : goal.invariant_of-self
invariant_of-self c = c.self.invariant

pub invariant_of-self-2 : goal.invariant_of-self-2
invariant_of-self-2 c =
    safe_less c.self.inside.facts c.take_fact.new.facts c.self.inside.expiries c.take_timer.new.expiries c.self.inside.clock c.self.inside.next_id c.self.inside.next_tag c.args.tag.0 c.self.invariant c.take_fact.ensures c.take_timer.ensures

pub returns-clause-stands : goal.returns-clause-stands
returns-clause-stands c = on_ok_weaker c.settle.result (λ settled w st none lawful.
    let s = c.args.setting.now in
    let m = c.args.memory.now in
    let k = (contents c.self.inside.facts c.self.inside.expiries c.self.inside.clock c.self.inside.course c.self.inside.agenda c.self.inside.next_id c.self.inside.next_tag) in
    let here : Standing s m k w = subst (λ (k : Contents). Standing s m k w) (sym c.self.view_is) st in
    let same : to_z w64 (of_z w64 c.self.inside.clock) ≡ c.self.inside.clock = clock_same c.self.inside.clock c.self.invariant.clock_low c.self.invariant.clock_high in
    let is : IsNewestTag c.self.inside.facts c.args.id.0 c.args.tag = subst (λ (k : Contents). IsNewestTag k.facts c.args.id.0 c.args.tag) (sym c.self.view_is) c.requires.tag in
    let of_type : is_of_type c.args.ty.0 (newest k c.args.id.0) ≡ true = subst (λ (k : Contents). is_of_type c.args.ty.0 (newest k c.args.id.0) ≡ true) (sym c.self.view_is) c.requires.of_type in
    let b = c.follow.new.agenda in
    let behind = map.remove here.seen.all c.args.tag.0 in
    let leads = retract_leads_on s m k w here c.args.id c.args.tag is c.requires.runs c.args.ty of_type none lawful c.take_timer.new.expiries c.take_timer.ensures c.take_fact.new.facts c.take_fact.ensures b in
    let has_left : HasLeft k.agenda b (is_tag_among c.as_slice.result.now) = subst (λ tags. HasLeft k.agenda b (is_tag_among tags)) (sym c.as_slice.ensures.value) c.in_ok-left.ensures.left in
    settled (stepped s.program w (Retract c.args.ty c.args.id))
    (retract_awaits s m k w here c.args.id c.args.tag is c.requires.runs c.args.ty of_type none lawful c.take_timer.new.expiries c.take_timer.ensures c.take_fact.new.facts c.take_fact.ensures b
    c.follow.new.net c.release.new.self (is_tag_among c.as_slice.result.now)
    ((simp (same, c.moment-moment.ensures.clock, c.moment-moment.ensures.last_starts, c.moment-moment.ensures.promises) at c.in_ok-left.ensures.net) here.seen.all behind here.seen.all (instant_of k) here.seen.forgotten leads here.seen.stands)
    ((simp (same, c.moment-moment.ensures.clock, c.moment-moment.ensures.last_starts, c.moment-moment.ensures.promises) at c.in_ok-left.ensures.agenda) here.seen.all behind here.seen.all (instant_of k) here.seen.forgotten leads here.seen.stands)
    has_left c.release.ensures.due c.release.ensures.lingering)) c.settle.ensures.stands

pub returns-clause-sound : goal.returns-clause-sound
returns-clause-sound c = on_ok_weaker c.settle.result
    (λ stays sound. stays (followed_sound c.args.setting.now c.args.memory.now _ (contents c.self.inside.facts c.self.inside.expiries c.self.inside.clock c.self.inside.course c.self.inside.agenda c.self.inside.next_id c.self.inside.next_tag) _ c.requires.runs
    (subst (IsSound c.args.setting.now.program c.args.memory.now) (sym c.self.view_is) sound) (c.in_ok-left.ensures.shape c.args.setting.now.program) c.in_ok-left.ensures.rules (λ r. r)))
    c.settle.ensures.sound
