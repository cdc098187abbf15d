use Rattle.session.proofs.Common.{◌≡◌, refl, sym, subst, to_z, of_z, to_z-of_z, w64, on_ok_weaker, Promise, stepped, is_tag_among, Memory, MovesSession}
use Rattle.{session.proofs.Common.{Contents, IsSound, clock_same, followed_sound, promise_no_more, contents}, session_model.proofs.Promising.{has_promise}}
use Rattle.session_model.proofs.Promising.{promise_awaits}
use Rattle.session.proofs.state.State.take_promise.Goals as goal

pub returns-clause-stands : goal.returns-clause-stands
returns-clause-stands c =
    let p = c.args.setting.now.program in
    let k = (contents c.self.inside.facts c.self.inside.expiries c.self.inside.clock c.self.inside.course c.self.inside.agenda c.self.inside.next_id c.self.inside.next_tag) in
    let same : to_z w64 (of_z w64 c.self.inside.clock) ≡ c.self.inside.clock = clock_same c.self.inside.clock c.self.invariant.clock_low c.self.invariant.clock_high in
    let whole : to_z w64 (of_z w64 c.args.from) ≡ c.args.from = to_z-of_z c.ranges.from in
    let promises = simp whole at c.in_ok-take_promise.ensures.promises in
    let n : Memory = record { net = c.follow.new.net; retention = c.args.memory.now.retention } in
    on_ok_weaker c.settle.result
    (λ h. subst (λ (z : Contents). MovesSession c.args.setting.now c.args.memory.now z (Promise c.args.entry c.args.from) c.settle.new.memory c.settle.new.self) c.self.view_is
    (λ w st none lawful. h (stepped p w (Promise c.args.entry c.args.from))
    (promise_awaits c.args.setting.now c.args.memory.now k w st c.args.entry c.args.from c.requires.runs none lawful n c.take_promise.new.self c.follow.new.agenda
    (has_promise c.args.entry.0 c.args.from c.self.inside.course c.take_promise.new.self promises c.in_ok-take_promise.ensures.last_starts c.in_ok-take_promise.ensures.begun) refl (is_tag_among c.as_slice.result.now)
    (simp (same, c.moment-moment.ensures.clock, c.moment-moment.ensures.last_starts, c.moment-moment.ensures.promises) at c.in_ok-left.ensures.net) (simp (same, c.moment-moment.ensures.clock, c.moment-moment.ensures.last_starts, c.moment-moment.ensures.promises) at c.in_ok-left.ensures.agenda)
    (simp (sym c.as_slice.ensures.value) at c.in_ok-left.ensures.left))))
    c.settle.ensures.stands

pub returns-clause-sound : goal.returns-clause-sound
returns-clause-sound c within = on_ok_weaker c.settle.result
    (λ stays sound. stays (followed_sound c.args.setting.now c.args.memory.now _ (contents c.self.inside.facts c.self.inside.expiries c.self.inside.clock c.self.inside.course c.self.inside.agenda c.self.inside.next_id c.self.inside.next_tag) _ c.requires.runs
    (subst (IsSound c.args.setting.now.program c.args.memory.now) (sym c.self.view_is) sound) (c.in_ok-left.ensures.shape c.args.setting.now.program) c.in_ok-left.ensures.rules
    (promise_no_more c.args.setting.now.program c.args.entry.0 c.args.from c.self.inside.course c.take_promise.new.self
    (has_promise c.args.entry.0 c.args.from c.self.inside.course c.take_promise.new.self (simp (to_z-of_z c.ranges.from) at c.in_ok-take_promise.ensures.promises) c.in_ok-take_promise.ensures.last_starts c.in_ok-take_promise.ensures.begun) within)))
    c.settle.ensures.sound
