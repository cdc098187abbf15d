-- For which arrivals a gate stands, and which changes it takes.
use Rattle.std.specs.Prelude.{◌≡◌, ℕ, ℤ, pos, ◌+ℤ◌, ◌≤ℤ◌, ◌^◌, Bool, true, false, List, [], ◌∷◌, ◌++◌, Option, Some, None, map, option_map, cond}
use Rattle.std.specs.{BTreeMap.{get}, List.{list_any, find, Sorted.{IsStrictlySortedBy}}, Map.{keys_of, values_of}, Ordering.{nat_cmp, eq_by_cmp}}
use Rattle.due_queue.specs.Moments.{found}
use Rattle.fx_base.specs.declared.ids.FactId.{FactId}
use Rattle.row_delta.specs.{NameOrder.{name_cmp}, declared.row.Named.{Named}}
use Rattle.window_gate.specs.declared.change.{WindowKind.{WindowKind, TheVariants.{Whole, Time, Length}}, GateChange.{GateChange, TheVariants.{Come, Gone}}}
use Rattle.window_gate.specs.declared.{change.GateChange.TheVariants.{Clock}, gate.{Gate.{Gate}, Kept.{Kept}}}
use Rattle.window_gate.specs.declared.gate.Kept.TheVariants as kept
use Rattle.window_gate.specs.{declared.{length_window.LengthWindow.{LengthWindow}, time_window.TimeWindow.{TimeWindow}}, Windows.{Arrival, named_of, has_tag}}
use Rattle.window_gate.specs.Windows.{inside}

-- whether a version stands in a list
abbrev pub has_version : List Named → Named → Bool
has_version names named = list_any (eq_by_cmp name_cmp named) names

-- no two versions have the same tag
abbrev pub TagsDiffer : List Named → Type 0
TagsDiffer [] = Unit {0}
TagsDiffer (named ∷ later) = (list_any (has_tag named.tag.0) later ≡ false) × TagsDiffer later

-- the first arrival with this tag
abbrev pub with_tag : ℕ → List Arrival → Option Arrival
with_tag tag arrivals = find (λ arrival. has_tag tag arrival.named) arrivals

-- the number of the first version with this tag
abbrev pub number_of : ℕ → List (ℕ × Named) → Option ℕ
number_of tag [] = None
number_of tag (numbered ∷ later) = cond (has_tag tag numbered.1) (Some numbered.0) (number_of tag later)

-- arrivals by their tags
abbrev pub HeldArrivals : Type 0
HeldArrivals = ℕ → Option Arrival

-- when an arrival leaves a time window, with its id
abbrev pub leaves_at : ℤ → Arrival → ℤ × FactId
leaves_at millis arrival = (arrival.start +ℤ millis, arrival.named.id)

-- a time window holds these and no others: by the tag when each leaves, with its id
pub record HoldsArrivals (window : TimeWindow) (held : HeldArrivals) : Type 0 where
  pub leaving : (tag : ℕ) → found nat_cmp window.leaving tag ≡ option_map (leaves_at window.millis) (held tag)

-- a time window keeps the arrivals inside and no others: by the tag when each leaves, with its id
abbrev pub KeepsTime : TimeWindow → List Arrival → ℤ → Type 0
KeepsTime window arrivals now = HoldsArrivals window (λ tag. with_tag tag (inside (Time window.millis) now arrivals))

-- the numbered versions that a length window keeps, the older ones first
abbrev pub numbered : LengthWindow → List (ℕ × Named)
numbered window = window.older.entries ++ window.newer.entries

-- a length window keeps all arrivals in their order, those inside apart, under numbers that rise up to the next one and that it finds by the tags
pub record KeepsLength (window : LengthWindow) (arrivals : List Arrival) (now : ℤ) : Type 0 where
  pub present : values_of (numbered window) ≡ map named_of arrivals
  pub latest : values_of window.newer.entries ≡ map named_of (inside (Length window.size) now arrivals)
  pub rising : IsStrictlySortedBy nat_cmp (keys_of (numbered window) ++ window.next ∷ [])
  pub numbers : (tag : ℕ) → get nat_cmp window.numbers tag ≡ number_of tag (numbered window)

-- what a gate keeps of the arrivals: nothing, where all are inside
abbrev pub KeepsWindow : Kept → List Arrival → ℤ → Type 0
KeepsWindow kept.Whole arrivals now = Unit {0}
KeepsWindow (kept.Time window) arrivals now = KeepsTime window arrivals now
KeepsWindow (kept.Length window) arrivals now = KeepsLength window arrivals now

-- the window of what is kept
abbrev pub window_kept : Kept → WindowKind
window_kept kept.Whole = Whole
window_kept (kept.Time window) = Time window.millis
window_kept (kept.Length window) = Length window.size

-- the window of a gate
abbrev pub window_of : Gate → WindowKind
window_of gate = window_kept gate.kept

-- the gate stands for these arrivals at this moment: their tags differ, and it keeps what its window needs of them and no more
pub record StandsForArrivals (gate : Gate) (arrivals : List Arrival) (now : ℤ) : Type 0 where
  pub tags : TagsDiffer (map named_of arrivals)
  pub keeps : KeepsWindow gate.kept arrivals now

-- the greatest start and length of a time window, in milliseconds
abbrev pub most : ℤ
most = pos (2 ^ 53)

-- the clock does not go back, which a time window alone asks, of its length too
abbrev pub MayPass : WindowKind → ℤ → ℤ → Type 0
MayPass Whole was now = Unit {0}
MayPass (Time millis) was now = (was ≤ℤ now) × (millis ≤ℤ most)
MayPass (Length size) was now = Unit {0}

-- what a time window alone asks of a start
abbrev pub MayStart : WindowKind → ℤ → Type 0
MayStart Whole start = Unit {0}
MayStart (Time millis) start = (pos 0 ≤ℤ start) × (start ≤ℤ most)
MayStart (Length size) start = Unit {0}

-- what a gate that keeps nothing alone asks of a version that goes: it came, and has not gone since
abbrev pub MayGo : WindowKind → List Named → Named → Type 0
MayGo Whole names named = has_version names named ≡ true
MayGo (Time millis) names named = Unit {0}
MayGo (Length size) names named = Unit {0}

-- what a gate asks of a change
abbrev pub MayChange : WindowKind → List Named → GateChange → Type 0
MayChange window names (Come named start) = (list_any (has_tag named.tag.0) names ≡ false) × MayStart window start
MayChange window names (Gone named) = MayGo window names named
MayChange window names Clock = Unit {0}

-- a change at this moment that a gate takes, which stands for these arrivals at the moment before
pub record TakesChange (window : WindowKind) (arrivals : List Arrival) (was : ℤ) (change : GateChange) (now : ℤ) : Type 0 where
  pub passes : MayPass window was now
  pub changes : MayChange window (map named_of arrivals) change

-- the clock alone lets the arrival leave the window at this moment, if it is inside before
abbrev pub LeavesAt : WindowKind → Arrival → ℤ → Type 0
LeavesAt Whole arrival at = ⊥
LeavesAt (Time millis) arrival at = at ≡ arrival.start +ℤ millis
LeavesAt (Length size) arrival at = ⊥
