use Rattle.session.proofs.Common.{◌≡◌, ◌∙◌, ◌+◌, false, refl, sym, subst, ap, slice_get, to_z, of_z, w64, on_ok_weaker, Insert, is_present, times_of, stepped}
use Rattle.session.proofs.Common.{MovesSession, Contents, IsSound, clock_same, safe_numbers, numbers_await, contents, has_start, Memory, is_tag_among}
use Rattle.session.proofs.Common.{followed_sound, new_no_more}
use Rattle.session.proofs.state.State.take_numbers.Goals as goal

pub invariant_of-self : goal.invariant_of-self
invariant_of-self c = safe_numbers c.self.inside.facts c.self.inside.expiries c.self.inside.clock c.self.inside.next_id c.self.inside.next_tag c.self.invariant

pub returns-clause-stands : goal.returns-clause-stands
returns-clause-stands c =
    let p = c.args.setting.now.program in
    let f = c.args.fact.now in
    let k = (contents c.self.inside.facts c.self.inside.expiries c.self.inside.clock c.self.inside.course c.self.inside.agenda c.self.inside.next_id c.self.inside.next_tag) in
    let id : f.id.0 ≡ c.self.inside.next_id = c.requires.id ∙ ap (λ (k : Contents). k.next_id) (sym c.self.view_is) in
    let at : f.tag.0 ≡ c.self.inside.next_tag = c.requires.tag ∙ ap (λ (k : Contents). k.next_tag) (sym c.self.view_is) in
    let times : f.times ≡ times_of (slice_get p.types f.ty.0) c.self.inside.clock f.fields = c.requires.times ∙ ap (λ (k : Contents). times_of (slice_get p.types f.ty.0) k.clock f.fields) (sym c.self.view_is) in
    let gone : is_present p c.self.inside.clock f ≡ false = ap (λ (k : Contents). is_present p k.clock f) c.self.view_is ∙ c.requires.absent in
    let same : to_z w64 (of_z w64 c.self.inside.clock) ≡ c.self.inside.clock = clock_same c.self.inside.clock c.self.invariant.clock_low c.self.invariant.clock_high in
    let n : Memory = record { net = c.follow.new.net; retention = c.args.memory.now.retention } in
    on_ok_weaker c.settle.result
    (λ h. subst (λ (z : Contents). MovesSession c.args.setting.now c.args.memory.now z (Insert f.ty f.entry f.fields) c.settle.new.memory c.settle.new.self) c.self.view_is
    (λ w st none lawful. h (stepped p w (Insert f.ty f.entry f.fields))
    (numbers_await c.args.setting.now c.args.memory.now k w st f id at times c.requires.runs none lawful gone n c.take_new.new.self c.follow.new.agenda
    (has_start p f c.self.inside.course c.take_new.new.self c.in_ok-take_new.ensures.last_starts c.in_ok-take_new.ensures.promises c.in_ok-take_new.ensures.begun) refl (is_tag_among c.as_slice.result.now)
    (simp (same, c.moment-moment.ensures.clock, c.moment-moment.ensures.last_starts, c.moment-moment.ensures.promises) at c.in_ok-left.ensures.net) (simp (same, c.moment-moment.ensures.clock, c.moment-moment.ensures.last_starts, c.moment-moment.ensures.promises) at c.in_ok-left.ensures.agenda)
    (simp (sym c.as_slice.ensures.value) at c.in_ok-left.ensures.left))))
    c.settle.ensures.stands

pub returns-clause-tags : goal.returns-clause-tags
returns-clause-tags c = on_ok_weaker c.settle.result (λ h. h ∙ ap (λ (k : Contents). k.next_tag + 1) c.self.view_is) c.settle.ensures.tags

pub returns-clause-sound : goal.returns-clause-sound
returns-clause-sound c within = on_ok_weaker c.settle.result
    (λ stays sound. stays (followed_sound c.args.setting.now c.args.memory.now _ (contents c.self.inside.facts c.self.inside.expiries c.self.inside.clock c.self.inside.course c.self.inside.agenda c.self.inside.next_id c.self.inside.next_tag) _ c.requires.runs
    (subst (IsSound c.args.setting.now.program c.args.memory.now) (sym c.self.view_is) sound) (c.in_ok-left.ensures.shape c.args.setting.now.program) c.in_ok-left.ensures.rules
    (new_no_more c.args.setting.now.program c.args.fact.now c.self.inside.course c.take_new.new.self
    (has_start c.args.setting.now.program c.args.fact.now c.self.inside.course c.take_new.new.self c.in_ok-take_new.ensures.last_starts c.in_ok-take_new.ensures.promises c.in_ok-take_new.ensures.begun) within)))
    c.settle.ensures.sound
