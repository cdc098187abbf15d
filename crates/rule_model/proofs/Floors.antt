-- The floor of an entry point, by its parts.
use Rattle.rule_model.proofs.Common.{◌≡◌, ◌≤ℤ◌, ◌-ℤ◌, ℕ, ◌∙◌, ap, arith, ints, clamps, Program, Snapshot, Reached, floor_by, lateness_of}
use Rattle.rule_model.specs.Snapshots.{floor}

-- it is not below the last start, nor below the promise, nor below the clock less the lateness
pub last_below_floor : (p : Program) (s : Snapshot) (entry : ℕ) → s.reached.last_start entry ≤ℤ floor p s entry
unfolding floor
last_below_floor p s entry = omega (arith, ints, clamps)

pub clock_below_floor : (p : Program) (s : Snapshot) (entry : ℕ) → (s.clock -ℤ lateness_of p entry) ≤ℤ floor p s entry
unfolding floor
clock_below_floor p s entry = omega (arith, ints, clamps)

-- it does not fall where none of them does
pub floor_on : (p : Program) (s t : Snapshot) (entry : ℕ) → s.clock ≤ℤ t.clock → s.reached.last_start entry ≤ℤ t.reached.last_start entry
    → s.reached.promise entry ≤ℤ t.reached.promise entry → floor p s entry ≤ℤ floor p t entry
unfolding floor
floor_on p s t entry clock last promise = omega (arith, ints, clamps)

-- it does not ask for the facts
pub same_floor : (p : Program) (s t : Snapshot) (entry : ℕ) → s.clock ≡ t.clock → s.reached ≡ t.reached → floor p s entry ≡ floor p t entry
unfolding floor
same_floor p s t entry clock reached =
    ap (λ (r : Reached). floor_by (lateness_of p entry) (r.last_start entry) (r.promise entry) s.clock) reached
    ∙ ap (floor_by (lateness_of p entry) (t.reached.last_start entry) (t.reached.promise entry)) clock
