-- The network of the temporal tests of conditions: each event condition has an occurrence, which is a start and an end, and each temporal
-- test bounds the differences of these points (Dechter, Meiri, Pearl 1991, simple temporal networks).
use Rattle.std.specs.{Prelude.{◌≡◌, ℕ, Bool, true, List, [], take, Some, slice_get}, List.{list_all}}
use Rattle.fx_base.specs.{Lists.{In}, declared.times.Times.{Times}}
use Rattle.temporal_ops.specs.{Edges.{edges_hold}, Possible.{IsEvent}}
use Rattle.rule_model.specs.declared.condition.{Condition.{Condition, TheVariants.{Plain, Negated, Existing, Folded}}, Pattern.{Pattern}}
use Rattle.rule_model.specs.{declared.{program.Program.{Program}, test.TimeTest.{TimeTest}}, Rows.{pattern_of}, Types.{is_event, is_point}}
pub use Rattle.rule_world.specs.Typed.{bindings}

-- The event that stands for a condition: that of a pattern which binds a fact has the number by which temporal tests name it, that of
-- a `not`, `exists` or `accumulate` the place of the condition.
pub data Occurrence : Type 0 where
  bound : ℕ → Occurrence
  aside : ℕ → Occurrence

-- the occurrence of the condition of this place
abbrev pub occurrence : List Condition → ℕ → Condition → Occurrence
occurrence conditions place (Plain pattern) = bound (bindings (take place conditions))
occurrence conditions place (Negated pattern) = aside place
occurrence conditions place (Existing pattern) = aside place
occurrence conditions place (Folded a) = aside place

-- Which conditions a network has: the patterns that bind events, and of the others those of the places that it is made for.
abbrev pub IsMember : Program → List ℕ → ℕ → Condition → Type 0
IsMember p places place (Plain pattern) = is_event p pattern.ty.0 ≡ true
IsMember p places place (Negated pattern) = In place places
IsMember p places place (Existing pattern) = In place places
IsMember p places place (Folded a) = In place places

-- the operator of a temporal test holds of the tested event and the one that it names
abbrev pub is_test_met : (Occurrence → Times) → Times → TimeTest → Bool
is_test_met times y test = edges_hold test.op y (times (bound test.fact))

-- an event of the pattern's type that meets its temporal tests
pub record MeetsTests (p : Program) (pattern : Pattern) (times : Occurrence → Times) (y : Times) : Type 0 where
  pub event : IsEvent (is_point p pattern.ty.0) y
  pub tests : list_all (is_test_met times y) pattern.times ≡ true

-- Times for the occurrences that solve the network of the conditions and these places; what no member stands for may have any.
abbrev pub SolvesConditions : Program → List Condition → List ℕ → (Occurrence → Times) → Type 0
SolvesConditions p conditions places times =
    (place : ℕ) (c : Condition) → slice_get conditions place ≡ Some c → IsMember p places place c
    → MeetsTests p (pattern_of c) times (times (occurrence conditions place c))

-- some events can be a match of the patterns that bind events, as far as their temporal tests say
abbrev pub AreSolvable : Program → List Condition → Type 0
AreSolvable p conditions = (times : Occurrence → Times) × SolvesConditions p conditions [] times
