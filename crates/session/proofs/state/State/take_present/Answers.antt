use Rattle.session.proofs.Common.{◌≡◌, ◌∙◌, ◌+◌, Some, option_map, true, sym, subst, ap, slice_get, to_z, of_z, w64, on_ok_weaker, Insert, is_present}
use Rattle.session.proofs.Common.{end_of_presence, times_of, stepped, is_tag_among, Memory, MovesSession, Contents, IsSound, clock_same, safe_new, safe_numbers}
use Rattle.session.proofs.Common.{present_awaits, got_new, contents, has_start, followed_sound, new_no_more}
use Rattle.std.specs.FinMap as map
use Rattle.session.proofs.Stops.{safe_timed}
use Rattle.session.proofs.state.State.take_present.Goals as goal

-- where the course is refused
pub invariant_of-self : goal.invariant_of-self
invariant_of-self c = safe_numbers c.self.inside.facts c.self.inside.expiries c.self.inside.clock c.self.inside.next_id c.self.inside.next_tag c.self.invariant

-- where the fact is
pub invariant_of-self-in_err-put_fact : goal.invariant_of-self-in_err-put_fact
invariant_of-self-in_err-put_fact c =
    let at : c.args.fact.tag.0 ≡ c.self.inside.next_tag = c.requires.tag ∙ ap (λ (k : Contents). k.next_tag) (sym c.self.view_is) in
    safe_timed c.self.inside.facts c.put_fact.new.facts c.self.inside.expiries c.put_timer.new.expiries c.self.inside.clock c.self.inside.next_id c.self.inside.next_tag c.args.fact
    (end_of_presence c.args.setting.now.program c.args.fact.ty.0 c.args.fact.times.start) c.self.invariant at c.in_err-put_fact.ensures.err c.in_ok-put_timer.ensures.ok

-- where the network or the agenda is
pub invariant_of-self-in_err-left : goal.invariant_of-self-in_err-left
invariant_of-self-in_err-left c =
    let at : c.args.fact.tag.0 ≡ c.self.inside.next_tag = c.requires.tag ∙ ap (λ (k : Contents). k.next_tag) (sym c.self.view_is) in
    safe_new c.self.inside.facts c.put_fact.new.facts c.self.inside.expiries c.put_timer.new.expiries c.self.inside.clock c.self.inside.next_id c.self.inside.next_tag c.args.fact
    (end_of_presence c.args.setting.now.program c.args.fact.ty.0 c.args.fact.times.start) c.self.invariant at c.in_ok-put_fact.ensures.ok c.in_ok-put_timer.ensures.ok

pub invariant_of-self-2 : goal.invariant_of-self-2
invariant_of-self-2 c =
    let at : c.args.fact.tag.0 ≡ c.self.inside.next_tag = c.requires.tag ∙ ap (λ (k : Contents). k.next_tag) (sym c.self.view_is) in
    safe_new c.self.inside.facts c.put_fact.new.facts c.self.inside.expiries c.put_timer.new.expiries c.self.inside.clock c.self.inside.next_id c.self.inside.next_tag c.args.fact
    (end_of_presence c.args.setting.now.program c.args.fact.ty.0 c.args.fact.times.start) c.self.invariant at c.in_ok-put_fact.ensures.ok c.in_ok-put_timer.ensures.ok

pub returns-clause-stands : goal.returns-clause-stands
returns-clause-stands c =
    let p = c.args.setting.now.program in
    let k = (contents c.self.inside.facts c.self.inside.expiries c.self.inside.clock c.self.inside.course c.self.inside.agenda c.self.inside.next_id c.self.inside.next_tag) in
    let same : to_z w64 (of_z w64 c.self.inside.clock) ≡ c.self.inside.clock = clock_same c.self.inside.clock c.self.invariant.clock_low c.self.invariant.clock_high in
    let id : c.args.fact.id.0 ≡ c.self.inside.next_id = c.requires.id ∙ ap (λ (k : Contents). k.next_id) (sym c.self.view_is) in
    let at : c.args.fact.tag.0 ≡ c.self.inside.next_tag = c.requires.tag ∙ ap (λ (k : Contents). k.next_tag) (sym c.self.view_is) in
    let times : c.args.fact.times ≡ times_of (slice_get p.types c.args.fact.ty.0) c.self.inside.clock c.args.fact.fields = c.requires.times ∙ ap (λ (k : Contents). times_of (slice_get p.types c.args.fact.ty.0) k.clock c.args.fact.fields) (sym c.self.view_is) in
    let now : is_present p c.self.inside.clock c.args.fact ≡ true = ap (λ (k : Contents). is_present p k.clock c.args.fact) c.self.view_is ∙ c.requires.present in
    let come : option_map (λ f. f.now) c.fact.result ≡ Some c.args.fact = c.fact.ensures ∙ ap (λ m. map.get m c.args.fact.tag.0) c.in_ok-put_fact.ensures.ok ∙ got_new c.self.inside.facts c.args.fact in
    let n : Memory = record { net = c.follow.new.net; retention = c.hold.new.retention } in
    on_ok_weaker c.settle.result
    (λ h. subst (λ (z : Contents). MovesSession c.args.setting.now c.args.memory.now z (Insert c.args.fact.ty c.args.fact.entry c.args.fact.fields) c.settle.new.memory c.settle.new.self) c.self.view_is
    (λ w st none lawful. h (stepped p w (Insert c.args.fact.ty c.args.fact.entry c.args.fact.fields))
    (present_awaits c.args.setting.now c.args.memory.now k w st c.args.fact id at times c.requires.runs none lawful now c.requires.start_high n c.put_fact.new.facts
    c.put_timer.new.expiries c.take_new.new.self c.follow.new.agenda c.in_ok-put_fact.ensures.ok c.in_ok-put_timer.ensures.ok (has_start p c.args.fact c.self.inside.course c.take_new.new.self c.in_ok-take_new.ensures.last_starts c.in_ok-take_new.ensures.promises c.in_ok-take_new.ensures.begun)
    c.life_end.result (is_tag_among c.as_slice.result.now) c.life_end.ensures c.in_ok-hold.ensures.due c.in_ok-hold.ensures.lingering
    (simp (same, come, c.moment-moment.ensures.clock, c.moment-moment.ensures.last_starts, c.moment-moment.ensures.promises) at c.in_ok-left.ensures.net) (simp (same, come, c.moment-moment.ensures.clock, c.moment-moment.ensures.last_starts, c.moment-moment.ensures.promises) at c.in_ok-left.ensures.agenda)
    (simp (sym c.as_slice.ensures.value) at c.in_ok-left.ensures.left))))
    c.settle.ensures.stands

pub returns-clause-tags : goal.returns-clause-tags
returns-clause-tags c = on_ok_weaker c.settle.result (λ h. h ∙ ap (λ (k : Contents). k.next_tag + 1) c.self.view_is) c.settle.ensures.tags

pub returns-clause-sound : goal.returns-clause-sound
returns-clause-sound c within = on_ok_weaker c.settle.result
    (λ stays sound. stays (followed_sound c.args.setting.now c.args.memory.now _ (contents c.self.inside.facts c.self.inside.expiries c.self.inside.clock c.self.inside.course c.self.inside.agenda c.self.inside.next_id c.self.inside.next_tag) _ c.requires.runs
    (subst (IsSound c.args.setting.now.program c.args.memory.now) (sym c.self.view_is) sound) (c.in_ok-left.ensures.shape c.args.setting.now.program) c.in_ok-left.ensures.rules
    (new_no_more c.args.setting.now.program c.args.fact c.self.inside.course c.take_new.new.self
    (has_start c.args.setting.now.program c.args.fact c.self.inside.course c.take_new.new.self c.in_ok-take_new.ensures.last_starts c.in_ok-take_new.ensures.promises c.in_ok-take_new.ensures.begun) within)))
    c.settle.ensures.sound
