use Rattle.session.proofs.Common.{◌≡◌, ◌+ℤ◌, Some, None, refl, sym, ◌∙◌, ap, subst, to_z, of_z, to_z-of_z, w64, Advance, At, clock_fault, MovesSession}
use Rattle.session.proofs.Common.{Contents, advance_fault, advance_moves, clock_same, moved_same, no_lines, on_ok, on_ok_weaker, refused_lines, refused_tries}
use Rattle.session.proofs.Common.{tried_done}
use Rattle.session.proofs.state.State.advance.Goals as goal

pub returns-in-Ok-clause-stands : goal.returns-in-Ok-clause-stands
returns-in-Ok-clause-stands c =
    let s = c.args.setting.now in
    let m = c.args.memory.now in
    let same : to_z w64 (of_z w64 c.self.inside.clock) ≡ c.self.inside.clock = clock_same c.self.inside.clock c.self.invariant.clock_low c.self.invariant.clock_high in
    let whole : to_z w64 (of_z w64 c.args.by) ≡ c.args.by = to_z-of_z c.ranges.by in
    let none = subst (λ (k : Contents). clock_fault k.clock (k.clock +ℤ c.args.by) ≡ None) c.self.view_is (simp (same, whole) at c.in-Ok.ensures.none) in
    let clock = subst (λ (k : Contents). c.in-Ok.clock ≡ k.clock +ℤ c.args.by) c.self.view_is (simp (same, whole) at c.in-Ok.ensures.clock) in
    let own = simp (same, whole) at c.in-Ok.ensures.none in
    let moved : c.in-Ok.clock ≡ c.self.inside.clock +ℤ c.args.by = simp (same, whole) at c.in-Ok.ensures.clock in
    let next : to_z w64 (of_z w64 c.in-Ok.clock) ≡ c.in-Ok.clock = ap (λ z. to_z w64 (of_z w64 z)) moved ∙ moved_same c.self.inside.clock (c.self.inside.clock +ℤ c.args.by) c.self.invariant.clock_low own ∙ sym moved in
    on_ok_weaker c.take_clock.result (λ moves. tried_done s m c.args.self.now (Advance c.args.by) c.take_clock.new.memory c.take_clock.new.self
    (λ w st suits. advance_fault s m c.args.self.now w st c.args.by None none)
    (advance_moves s m c.args.self.now c.args.by c.in-Ok.clock c.take_clock.new.memory c.take_clock.new.self clock (subst (λ z. MovesSession s m c.args.self.now (At z) c.take_clock.new.memory c.take_clock.new.self) next moves))) c.take_clock.ensures.stands

pub returns-in-Ok-clause-lines : goal.returns-in-Ok-clause-lines
returns-in-Ok-clause-lines c =
    let s = c.args.setting.now in
    let m = c.args.memory.now in
    let same : to_z w64 (of_z w64 c.self.inside.clock) ≡ c.self.inside.clock = clock_same c.self.inside.clock c.self.invariant.clock_low c.self.invariant.clock_high in
    let whole : to_z w64 (of_z w64 c.args.by) ≡ c.args.by = to_z-of_z c.ranges.by in
    let none = subst (λ (k : Contents). clock_fault k.clock (k.clock +ℤ c.args.by) ≡ None) c.self.view_is (simp (same, whole) at c.in-Ok.ensures.none) in
    on_ok c.take_clock.result (no_lines s m c.args.self.now (Advance c.args.by) c.args.lines.now.items (λ w st suits. advance_fault s m c.args.self.now w st c.args.by None none) (λ w. refl))

pub returns-in-Err-clause-stands : goal.returns-in-Err-clause-stands
returns-in-Err-clause-stands c =
    let s = c.args.setting.now in
    let m = c.args.memory.now in
    let same : to_z w64 (of_z w64 c.self.inside.clock) ≡ c.self.inside.clock = clock_same c.self.inside.clock c.self.invariant.clock_low c.self.invariant.clock_high in
    let whole : to_z w64 (of_z w64 c.args.by) ≡ c.args.by = to_z-of_z c.ranges.by in
    let fault = subst (λ (k : Contents). clock_fault k.clock (k.clock +ℤ c.args.by) ≡ Some c.in-Err.code) c.self.view_is (simp (same, whole) at c.in-Err.ensures.fault) in
    on_ok c.refuse.result (refused_tries s m c.args.self.now (Advance c.args.by) c.in-Err.code (λ w st suits. advance_fault s m c.args.self.now w st c.args.by (Some c.in-Err.code) fault) c.args.self.now refl)

pub returns-in-Err-clause-lines : goal.returns-in-Err-clause-lines
returns-in-Err-clause-lines c =
    let s = c.args.setting.now in
    let m = c.args.memory.now in
    let same : to_z w64 (of_z w64 c.self.inside.clock) ≡ c.self.inside.clock = clock_same c.self.inside.clock c.self.invariant.clock_low c.self.invariant.clock_high in
    let whole : to_z w64 (of_z w64 c.args.by) ≡ c.args.by = to_z-of_z c.ranges.by in
    let fault = subst (λ (k : Contents). clock_fault k.clock (k.clock +ℤ c.args.by) ≡ Some c.in-Err.code) c.self.view_is (simp (same, whole) at c.in-Err.ensures.fault) in
    on_ok_weaker c.refuse.result (refused_lines s m c.args.self.now (Advance c.args.by) c.in-Err.code (λ w st suits. advance_fault s m c.args.self.now w st c.args.by (Some c.in-Err.code) fault)
    c.args.lines.now.items c.refuse.new.lines.items) c.refuse.ensures.lines

pub returns-in-Ok-clause-known : goal.returns-in-Ok-clause-known
returns-in-Ok-clause-known c = λ known. on_ok c.take_clock.result (λ before. before)

pub returns-in-Err-clause-known : goal.returns-in-Err-clause-known
returns-in-Err-clause-known c = λ known. c.refuse.ensures.known c.args.setting.now.program
