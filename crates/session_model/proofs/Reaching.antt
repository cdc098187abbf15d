-- What entry points have reached does not fall in a step without a fault.
use Rattle.session_model.proofs.Common.{◌≡◌, ◌==◌, ℕ, ℤ, ◌≤ℤ◌, Bool, true, false, None, refl, subst, if◌then◌else◌, Program, Step, Insert, Modify, Retract}
use Rattle.session_model.proofs.Common.{Advance, At, Promise, Begin, Reached, IsLawful, World, promise_with, inserted, promised_forward, NeverFalls}
use Rattle.{std.{specs.Int.Signed.{≤ℤ_refl}, proofs.lemmas.Bool.{eqb-true}}, rule_world.{specs.Worlds.{moved, step_fault, stepped}, proofs.Sound.{new_goes_on}}}

pub stays_reached : (r : Reached) → NeverFalls r r
stays_reached r = record { last_start = λ entry. ≤ℤ_refl (r.last_start entry); promise = λ entry. ≤ℤ_refl (r.promise entry) }

promise_on : (promise : ℕ → ℤ) (entry : ℕ) (from : ℤ) → promise entry ≤ℤ from → (other : ℕ) → promise other ≤ℤ promise_with entry from promise other
promise_on promise entry from le other = by (entry == other) refl
  where
    by : (b : Bool) → (entry == other) ≡ b → promise other ≤ℤ (if b then from else promise other)
    by true e = subst (λ n. promise n ≤ℤ from) (eqb-true entry other e) le
    by false e = ≤ℤ_refl (promise other)

pub reaches_on : (p : Program) (w : World) (step : Step) → IsLawful p w → step_fault p w step ≡ None → NeverFalls w.reached (stepped p w step).reached
unfolding stepped moved step_fault
reaches_on p w (Insert ty entry fields) law none =
    record { last_start = (new_goes_on p w ty.0 entry.0 fields (inserted p w ty.0 entry.0 fields none).1 law.last_low law.last_high).last; promise = λ other. ≤ℤ_refl (w.reached.promise other) }
reaches_on p w (Modify id sets) law none = stays_reached w.reached
reaches_on p w (Retract ty id) law none = stays_reached w.reached
reaches_on p w (Advance by) law none = stays_reached w.reached
reaches_on p w (At moment) law none = stays_reached w.reached
reaches_on p w Begin law none = stays_reached w.reached
reaches_on p w (Promise entry from) law none = record {
  last_start = λ other. ≤ℤ_refl (w.reached.last_start other);
  promise = promise_on w.reached.promise entry.0 from (promised_forward (w.reached.promise entry.0) from none).0;
}
