-- Which old rules stay as new ones, as a list, and how they are found.
use Rattle.std.specs.{Prelude.{◌≡◌, ◌<◌, ℕ, true, false, List, Option, Some, None, slice_get}, List.{list_any}, Option.{option_and_then}}
use Rattle.rule_model.specs.declared.program.{Program.{Program}, Rule.{Rule}}
use Rattle.rule_change.specs.{Changed.{moved_rule}, Told.{is_place}}

-- the place that a list has for a new rule
abbrev pub place_in : List (Option ℕ) → ℕ → Option ℕ
place_in places new = option_and_then (λ (old : Option ℕ). old) (slice_get places new)

-- the old rule in this place is the new rule, under its new places
abbrev pub IsThere : Program → Program → Rule → ℕ → Type 0
IsThere p q rule old = (was : Rule) × (slice_get p.rules old ≡ Some was) × (rule ≡ moved_rule p q was)

-- The first old rule that is the new one and was not taken; nothing where there is none.
abbrev pub IsFirstFree : Program → Program → Rule → List (Option ℕ) → Option ℕ → Type 0
IsFirstFree p q rule places None = (old : ℕ) → IsThere p q rule old → list_any (is_place old) places ≡ true
IsFirstFree p q rule places (Some old) =
    IsThere p q rule old × (list_any (is_place old) places ≡ false)
    × ((earlier : ℕ) → earlier < old → IsThere p q rule earlier → list_any (is_place earlier) places ≡ true)
