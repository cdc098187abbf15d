-- When a negative pattern waits no longer (Drools Fusion 5 User Guide, negative patterns with temporal constraints).
use Rattle.std.specs.{Prelude.{◌≡◌, ℤ, ◌<ℤ◌, int_lt, ◌||◌, not, Bool, true, false, List, [], ◌∷◌, Option, Some, None, option_map}, Option.{option_and_then}}
use Rattle.fx_base.specs.declared.{fact.Fact.{Fact}, times.Times.{Times}}
use Rattle.temporal_ops.specs.{declared.{edge.OpEdge.{OpEdge}, window.Window.{Window, TheVariants.{Never, UpTo, Unbounded}}}, Edges.{IsOp}, Possible.{IsEvent}}
use Rattle.temporal_ops.specs.{Possible.{IsNone, IsLatest, AreStartsUnbounded}, Starts.{starts_window}}
use Rattle.rule_model.specs.{declared.{condition.Pattern.{Pattern}, program.Program.{Program}, test.TimeTest.{TimeTest}}, Tests.{times_hold}, Tuples.{Bindings}}
use Rattle.rule_model.specs.Types.{is_event, is_point}

-- the times of an event of the pattern's type that pass its temporal tests; they range over all pairs of whole numbers
pub record IsPossible (p : Program) (pattern : Pattern) (bound : Bindings) (y : Times) : Type 0 where
  pub event : IsEvent (is_point p pattern.ty.0) y
  pub tests : times_hold bound y pattern.times ≡ true

-- What was bound is mature for a negative pattern, where all events that start before a moment are known: the pattern is one of plain
-- facts; no event is possible; there is none that starts last; or the one that starts last starts before the moment.
pub data IsMature (p : Program) (pattern : Pattern) (bound : Bindings) (moment : ℤ) : Type 0 where
  of_plain : is_event p pattern.ty.0 ≡ false → IsMature p pattern bound moment
  of_none : IsNone (IsPossible p pattern bound) → IsMature p pattern bound moment
  of_unbounded : AreStartsUnbounded (IsPossible p pattern bound) → IsMature p pattern bound moment
  of_past : (u : ℤ) → IsLatest (IsPossible p pattern bound) u → u <ℤ moment → IsMature p pattern bound moment

-- ---- the same as a function

-- the operator of a temporal test and the times of the event that it names
abbrev pub bound_of : Bindings → TimeTest → Option (List OpEdge × Times)
bound_of bound test = option_map (λ (f : Fact). (test.op, f.times)) (bound.fact test.fact)

-- those of all temporal tests; nothing where one of them names what is missing
abbrev pub bounds_of : Bindings → List TimeTest → Option (List (List OpEdge × Times))
bounds_of bound [] = Some []
bounds_of bound (test ∷ tests) = option_and_then (λ b. option_map (λ bs. b ∷ bs) (bounds_of bound tests)) (bound_of bound test)

abbrev pub window_by_lists : Bool → Option (List (List OpEdge × Times)) → Window
window_by_lists point None = Never
window_by_lists point (Some bounds) = starts_window bounds point

-- the starts of the possible events
abbrev pub start_window_at : Program → Pattern → Bindings → Window
start_window_at p pattern bound = window_by_lists (is_point p pattern.ty.0) (bounds_of bound pattern.times)

abbrev pub is_past : Window → ℤ → Bool
is_past Never moment = true
is_past Unbounded moment = true
is_past (UpTo u) moment = int_lt u moment

-- whether what was bound is mature
unfoldable pub is_mature : Program → Pattern → Bindings → ℤ → Bool
is_mature p pattern bound moment = not (is_event p pattern.ty.0) || is_past (start_window_at p pattern bound) moment

-- ---- operators

-- the edges of each temporal test are those of an operator, as those of every accepted rule are
abbrev pub AreOperators : List TimeTest → Type 0
AreOperators [] = Unit {0}
AreOperators (test ∷ tests) = IsOp test.op × AreOperators tests
