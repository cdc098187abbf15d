use Rattle.session.proofs.Common.{◌≡◌, Some, None, refl, ◌∙◌, ap, subst, to_z, of_z, to_z-of_z, w64, At, clock_fault, MovesSession, Contents, at_fault}
use Rattle.session.proofs.Common.{clock_same, no_lines, on_ok, on_ok_weaker, refused_lines, refused_tries, tried_done}
use Rattle.session.proofs.state.State.go_to.Goals as goal

pub returns-in-Ok-clause-stands : goal.returns-in-Ok-clause-stands
returns-in-Ok-clause-stands c =
    let s = c.args.setting.now in
    let m = c.args.memory.now in
    let same : to_z w64 (of_z w64 c.self.inside.clock) ≡ c.self.inside.clock = clock_same c.self.inside.clock c.self.invariant.clock_low c.self.invariant.clock_high in
    let whole : to_z w64 (of_z w64 c.args.moment) ≡ c.args.moment = to_z-of_z c.ranges.moment in
    let none = subst (λ (k : Contents). clock_fault k.clock c.args.moment ≡ None) c.self.view_is (simp (same, whole) at c.in-Ok.ensures.none) in
    let clock : c.in-Ok.clock ≡ c.args.moment = simp whole at c.in-Ok.ensures.clock in
    let next : to_z w64 (of_z w64 c.in-Ok.clock) ≡ c.args.moment = ap (λ z. to_z w64 (of_z w64 z)) clock ∙ whole in
    on_ok_weaker c.take_clock.result (λ moves. tried_done s m c.args.self.now (At c.args.moment) c.take_clock.new.memory c.take_clock.new.self
    (λ w st suits. at_fault s m c.args.self.now w st c.args.moment None none)
    (subst (λ z. MovesSession s m c.args.self.now (At z) c.take_clock.new.memory c.take_clock.new.self) next moves)) c.take_clock.ensures.stands

pub returns-in-Ok-clause-lines : goal.returns-in-Ok-clause-lines
returns-in-Ok-clause-lines c =
    let s = c.args.setting.now in
    let m = c.args.memory.now in
    let same : to_z w64 (of_z w64 c.self.inside.clock) ≡ c.self.inside.clock = clock_same c.self.inside.clock c.self.invariant.clock_low c.self.invariant.clock_high in
    let whole : to_z w64 (of_z w64 c.args.moment) ≡ c.args.moment = to_z-of_z c.ranges.moment in
    let none = subst (λ (k : Contents). clock_fault k.clock c.args.moment ≡ None) c.self.view_is (simp (same, whole) at c.in-Ok.ensures.none) in
    on_ok c.take_clock.result (no_lines s m c.args.self.now (At c.args.moment) c.args.lines.now.items (λ w st suits. at_fault s m c.args.self.now w st c.args.moment None none) (λ w. refl))

pub returns-in-Err-clause-stands : goal.returns-in-Err-clause-stands
returns-in-Err-clause-stands c =
    let s = c.args.setting.now in
    let m = c.args.memory.now in
    let same : to_z w64 (of_z w64 c.self.inside.clock) ≡ c.self.inside.clock = clock_same c.self.inside.clock c.self.invariant.clock_low c.self.invariant.clock_high in
    let whole : to_z w64 (of_z w64 c.args.moment) ≡ c.args.moment = to_z-of_z c.ranges.moment in
    let fault = subst (λ (k : Contents). clock_fault k.clock c.args.moment ≡ Some c.in-Err.code) c.self.view_is (simp (same, whole) at c.in-Err.ensures.fault) in
    on_ok c.refuse.result (refused_tries s m c.args.self.now (At c.args.moment) c.in-Err.code (λ w st suits. at_fault s m c.args.self.now w st c.args.moment (Some c.in-Err.code) fault) c.args.self.now refl)

pub returns-in-Err-clause-lines : goal.returns-in-Err-clause-lines
returns-in-Err-clause-lines c =
    let s = c.args.setting.now in
    let m = c.args.memory.now in
    let same : to_z w64 (of_z w64 c.self.inside.clock) ≡ c.self.inside.clock = clock_same c.self.inside.clock c.self.invariant.clock_low c.self.invariant.clock_high in
    let whole : to_z w64 (of_z w64 c.args.moment) ≡ c.args.moment = to_z-of_z c.ranges.moment in
    let fault = subst (λ (k : Contents). clock_fault k.clock c.args.moment ≡ Some c.in-Err.code) c.self.view_is (simp (same, whole) at c.in-Err.ensures.fault) in
    on_ok_weaker c.refuse.result (refused_lines s m c.args.self.now (At c.args.moment) c.in-Err.code (λ w st suits. at_fault s m c.args.self.now w st c.args.moment (Some c.in-Err.code) fault)
    c.args.lines.now.items c.refuse.new.lines.items) c.refuse.ensures.lines

pub returns-in-Ok-clause-known : goal.returns-in-Ok-clause-known
returns-in-Ok-clause-known c = λ known. on_ok c.take_clock.result (λ before. before)

pub returns-in-Err-clause-known : goal.returns-in-Err-clause-known
returns-in-Err-clause-known c = λ known. c.refuse.ensures.known c.args.setting.now.program
