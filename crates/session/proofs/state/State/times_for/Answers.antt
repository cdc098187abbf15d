use Rattle.session.proofs.Common.{◌≡◌, ℤ, pos, ◌≤ℤ◌, ◌+ℤ◌, ◌-ℤ◌, Bool, true, false, List, Option, None, Result, Ok, Err, refl, sym, ◌∙◌, slice_get, subst, to_z}
use Rattle.session.proofs.Common.{of_z, w64, arith, IfOk, TypeInfo, is_event_type, Code, most_millis, new_fault, times_of, zero_clock}
use Rattle.{std.proofs.lemmas.Int.{ints}, fx_base.specs.declared.{times.Times.{Times}, value.Value.{Value}}, rule_world.proofs.Faultless.{not_started, started}}
use Rattle.session.proofs.state.State.times_for.Goals as goal

event_low : (m a b : ℤ) → (pos 0 -ℤ m) ≤ℤ a → a ≤ℤ b → (pos 0 -ℤ m) ≤ℤ b
event_low m a b low forward = omega (arith, ints)

event_high : (m a b : ℤ) → a ≤ℤ m → b ≤ℤ (a +ℤ m) → b ≤ℤ (m +ℤ m)
event_high m a b high short = omega (arith, ints)

plain_low : (m : ℤ) → pos 0 ≤ℤ m → (pos 0 -ℤ m) ≤ℤ pos 0
plain_low m some = omega (arith, ints)

plain_high : (m : ℤ) → pos 0 ≤ℤ m → pos 0 ≤ℤ (m +ℤ m)
plain_high m some = omega (arith, ints)

abbrev EndsWithin : Times → Type 0
EndsWithin times = ((pos 0 -ℤ most_millis) ≤ℤ times.end) × (times.end ≤ℤ (most_millis +ℤ most_millis))

-- a new fact that has no fault ends at most 2^53 ms behind its start
ends_within : (info : Option TypeInfo) (floor clock : ℤ) (fields : List Value) (times : Times) → times ≡ times_of info clock fields → (pos 0 -ℤ most_millis) ≤ℤ times.start → times.start ≤ℤ most_millis
    → new_fault info floor clock fields ≡ None → EndsWithin times
ends_within info floor clock fields times is low high none = by (is_event_type info) refl
  where
    by : (b : Bool) → is_event_type info ≡ b → EndsWithin times
    by true event =
        let begun = subst (λ (t : Times). (t.start ≤ℤ t.end) × (t.end ≤ℤ (t.start +ℤ most_millis))) (sym is)
        (let started_at = started info floor clock fields event none in (started_at.forward, started_at.short)) in
        (event_low most_millis times.start times.end low begun.0, event_high most_millis times.start times.end high begun.1)
    by false plain = subst EndsWithin (sym (is ∙ not_started info clock fields plain)) (plain_low most_millis zero_clock.1, plain_high most_millis zero_clock.1)

-- the same of what a call answers
each_end : (info : Option TypeInfo) (floor clock : ℤ) (fields : List Value) (r : Result Times Code) → IfOk r (λ times. times ≡ times_of info clock fields)
    → IfOk r (λ times. (pos 0 -ℤ most_millis) ≤ℤ times.start) → IfOk r (λ times. times.start ≤ℤ most_millis) → IfOk r (λ times. new_fault info floor clock fields ≡ None)
    → IfOk r (λ times. (pos 0 -ℤ most_millis) ≤ℤ times.end) × IfOk r (λ times. times.end ≤ℤ (most_millis +ℤ most_millis))
each_end info floor clock fields (Ok times) is low high none = ends_within info floor clock fields times is low high none
each_end info floor clock fields (Err code) is low high none = (tt, tt)

pub returns-clause-end_low : goal.returns-clause-end_low
returns-clause-end_low c =
    (each_end (slice_get c.args.program.now.types c.args.ty.0) (to_z w64 (of_z w64 c.floor-floor.result)) (to_z w64 (of_z w64 c.self.inside.clock)) c.args.fields.now c.new_times.result
    c.new_times.ensures.times c.new_times.ensures.low c.new_times.ensures.high c.new_times.ensures.none).0

pub returns-clause-end_high : goal.returns-clause-end_high
returns-clause-end_high c =
    (each_end (slice_get c.args.program.now.types c.args.ty.0) (to_z w64 (of_z w64 c.floor-floor.result)) (to_z w64 (of_z w64 c.self.inside.clock)) c.args.fields.now c.new_times.result
    c.new_times.ensures.times c.new_times.ensures.low c.new_times.ensures.high c.new_times.ensures.none).1
