-- The steps of the two windows that keep something.
use Rattle.std.specs.Prelude.{◌≡◌, ℕ, ℤ, ◌<◌, ◌≤◌, ◌+ℤ◌, ◌⊎◌, ◌==◌, ◌&&◌, ◌||◌, Bool, false, cond, List, [], ◌∷◌, ◌++◌, Option, Some, None, option_to_list}
use Rattle.std.specs.{Prelude.{length, int_le, int_lt}, BTreeMap.{insert_entry, is_at}, Map.{lookup, remove_entry}, Option.{option_or}, Ordering.{nat_cmp}}
use Rattle.row_delta.specs.declared.row.Named.{Named}
use Rattle.window_gate.specs.declared.{change.GateChange.{GateChange, TheVariants.{Come, Gone, Clock}}, time_window.TimeWindow.{TimeWindow}}
use Rattle.window_gate.specs.{Windows.{Arrival}, Standing.{HeldArrivals, HoldsArrivals, has_version}}

-- versions under their numbers
abbrev pub Numbered : Type 0
Numbered = List (ℕ × Named)

-- the oldest inside is moved to the older ones, where as many are inside as may be
abbrev pub MakesRoom : ℕ → Numbered → Numbered → Numbered → Numbered → Option Named → Type 0
MakesRoom size older newer older_now newer_now None = (older_now ≡ older) × (newer_now ≡ newer) × ((length newer < size) ⊎ (newer ≡ []))
MakesRoom size older newer older_now newer_now (Some named) = (number : ℕ) × (newer ≡ (number, named) ∷ newer_now) × (older_now ≡ insert_entry nat_cmp older number named) × (size ≤ length newer)

-- the latest of the older ones is moved inside, if there is one
abbrev pub BringsBack : Numbered → Numbered → Numbered → Numbered → Option Named → Type 0
BringsBack older newer older_now newer_now None = (older_now ≡ older) × (newer_now ≡ newer) × (older ≡ [])
BringsBack older newer older_now newer_now (Some named) = (number : ℕ) × (older ≡ older_now ++ (number, named) ∷ []) × (newer_now ≡ insert_entry nat_cmp newer number named)

-- the version with this number is taken out; where it was inside, an older one comes back
abbrev pub Removes : ℕ → Numbered → Numbered → Numbered → Numbered → Option Named → Option Named → Type 0
Removes number older newer older_now newer_now None back = (lookup (is_at (nat_cmp number)) newer ≡ None) × (back ≡ None) × (older_now ≡ remove_entry (is_at (nat_cmp number)) older) × (newer_now ≡ newer)
Removes number older newer older_now newer_now (Some named) back = (lookup (is_at (nat_cmp number)) newer ≡ Some named) × BringsBack older (remove_entry (is_at (nat_cmp number)) newer) older_now newer_now back

-- whether there is an arrival and it has this id
abbrev pub is_id : ℕ → Option Arrival → Bool
is_id id None = false
is_id id (Some arrival) = id == arrival.named.id.0

-- whether there is an arrival and the moment when it leaves has come
abbrev pub has_time_come : ℤ → ℤ → Option Arrival → Bool
has_time_come millis now None = false
has_time_come millis now (Some arrival) = int_le (arrival.start +ℤ millis) now

-- whether the change takes out this tag
abbrev pub takes_out : GateChange → ℕ → Bool
takes_out (Come named start) tag = false
takes_out (Gone named) tag = tag == named.tag.0
takes_out Clock tag = false

-- those leave whose moment has come, and the one that goes
abbrev pub leaves : ℤ → ℤ → GateChange → ℕ → Option Arrival → Bool
leaves millis now change tag one = has_time_come millis now one || takes_out change tag

-- the arrival with this tag that the change brings inside
abbrev pub brings : ℤ → ℤ → GateChange → HeldArrivals
brings millis now (Come named start) tag = cond (int_lt now (start +ℤ millis) && (tag == named.tag.0)) (Some (record { named = named; start = start })) None
brings millis now (Gone named) tag = None
brings millis now Clock tag = None

-- of what a time window holds those leave for which the test is true, and these are their versions
pub record Leave (old new : TimeWindow) (test : ℕ → Option Arrival → Bool) (left : List Named) : Type 0 where
  pub millis : new.millis ≡ old.millis
  pub versions : (held : HeldArrivals) → HoldsArrivals old held → (named : Named) → has_version left named ≡ (test named.tag.0 (held named.tag.0) && is_id named.id.0 (held named.tag.0))
  pub rest : (held : HeldArrivals) → HoldsArrivals old held → HoldsArrivals new (λ tag. cond (test tag (held tag)) None (held tag))

-- these enter a time window, each in place of what it holds with its tag, and this is their version
pub record Enter (old new : TimeWindow) (these : HeldArrivals) (come : Option Named) : Type 0 where
  pub version : (named : Named) → has_version (option_to_list come) named ≡ is_id named.id.0 (these named.tag.0)
  pub rest : (held : HeldArrivals) → HoldsArrivals old held → HoldsArrivals new (λ tag. option_or (these tag) (held tag))
