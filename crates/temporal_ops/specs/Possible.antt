-- Possible events of a negative pattern, and the starts that they have (Drools Fusion 5 User Guide, negative
-- patterns with temporal constraints). They range over all pairs of whole numbers.
use Rattle.std.specs.{Prelude.{◌≡◌, ℤ, ◌≤ℤ◌, Bool, true, List}, List.{list_all}}
use Rattle.fx_base.specs.declared.times.Times.{Times}
use Rattle.temporal_ops.specs.{declared.{edge.OpEdge.{OpEdge}, window.Window.{Window, TheVariants.{Never, UpTo, Unbounded}}}, Edges.{edges_hold}}

-- each operator holds of the tested event y and its own bound event
abbrev pub all_hold : List (List OpEdge × Times) → Times → Bool
all_hold bounds y = list_all (λ bound. edges_hold bound.0 y bound.1) bounds

-- the times of an event, which of a point type ends where it starts
pub record IsEvent (point : Bool) (times : Times) : Type 0 where
  pub ordered : times.start ≤ℤ times.end
  pub ends : point ≡ true → times.end ≡ times.start

-- y is a possible event: all operators hold of it
pub record ArePossibleTimes (bounds : List (List OpEdge × Times)) (point : Bool) (y : Times) : Type 0 where
  pub event : IsEvent point y
  pub holds : all_hold bounds y ≡ true

abbrev pub IsNone : (Times → Type 0) → Type 0
IsNone P = (y : Times) → P y → ⊥

-- some event starts at u, and none later
pub record IsLatest (P : Times → Type 0) (u : ℤ) : Type 0 where
  pub event : Times
  pub possible : P event
  pub starts : event.start ≡ u
  pub latest : (y : Times) → P y → y.start ≤ℤ u

-- some event starts at n or later, for every n
abbrev pub AreStartsUnbounded : (Times → Type 0) → Type 0
AreStartsUnbounded P = (n : ℤ) → (y : Times) × P y × (n ≤ℤ y.start)

-- the starts of these events
abbrev pub AreStarts : (Times → Type 0) → Window → Type 0
AreStarts P Never = IsNone P
AreStarts P (UpTo u) = IsLatest P u
AreStarts P Unbounded = AreStartsUnbounded P

-- the starts of the possible events
abbrev pub IsStartWindow : List (List OpEdge × Times) → Bool → Window → Type 0
IsStartWindow bounds point window = AreStarts (ArePossibleTimes bounds point) window
