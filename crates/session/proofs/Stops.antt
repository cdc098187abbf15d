-- What is safe where memory is refused within a step.
use Rattle.session.proofs.Common.{◌≡◌, ◌+◌, ℕ, ℤ, Option, refl, sym, subst, Fact, HeldFacts, safe_new, safe_numbers, safe_again, safe_left, remaining}
use Rattle.{session.proofs.Common.{remaining_is, ◌≤ℤ◌, List, pos, most_millis}, due_queue.specs.Timers.{Timers, TakesDue}, session_model.specs.Places.{IsSafe}}
use Rattle.session_model.specs.Waiting.{with_timer}
use Rattle.std.specs.FinMap as map

-- a fact waits already, and is not held yet
pub safe_timed : (facts same : HeldFacts) (timers later : Timers) (clock : ℤ) (id tag : ℕ) (f : Fact) (moment : Option ℤ) → IsSafe facts timers clock id tag → f.tag.0 ≡ tag → same ≡ facts
    → later ≡ with_timer timers f.tag.0 moment → IsSafe same later clock (id + 1) (tag + 1)
safe_timed facts same timers later clock id tag f moment safe at is timed =
    let both = safe_new facts (map.insert facts f.tag.0 f) timers later clock id tag f moment safe at refl timed in
    let numbers = safe_numbers facts timers clock id tag safe in
    subst (λ (fs : HeldFacts). IsSafe fs later clock (id + 1) (tag + 1)) (sym is)
    (record { fresh = numbers.fresh; untimed = both.untimed; ids = numbers.ids; clock_low = numbers.clock_low; clock_high = numbers.clock_high })

-- a tag was given, and no fact has it yet
pub safe_given : (facts same : HeldFacts) (timers : Timers) (clock : ℤ) (id tag : ℕ) (f : Fact) → IsSafe facts timers clock id tag → f.tag.0 ≡ tag → same ≡ facts
    → IsSafe same timers clock id (tag + 1)
safe_given facts same timers clock id tag f safe at is =
    let more = safe_again facts (map.insert facts f.tag.0 f) timers clock id tag f safe at refl in
    let numbers = safe_numbers facts timers clock id tag safe in
    subst (λ (fs : HeldFacts). IsSafe fs timers clock id (tag + 1)) (sym is)
    (record { fresh = numbers.fresh; untimed = more.untimed; ids = more.ids; clock_low = more.clock_low; clock_high = more.clock_high })

-- what is due waits no longer, and is held still
pub safe_due : (facts : HeldFacts) (timers later : Timers) (clock next : ℤ) (id tag : ℕ) (gone : List ℕ) → IsSafe facts timers clock id tag → pos 0 ≤ℤ next → next ≤ℤ most_millis
    → TakesDue next timers later gone → IsSafe facts later clock id tag
safe_due facts timers later clock next id tag gone safe low high takes =
    let left = safe_left facts (remaining facts gone) timers later clock next id tag gone safe low high takes (remaining_is facts gone) in
    record { fresh = safe.fresh; untimed = left.untimed; ids = safe.ids; clock_low = safe.clock_low; clock_high = safe.clock_high }
