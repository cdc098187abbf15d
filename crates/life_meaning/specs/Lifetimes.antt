-- How long behind its end an event of a type can still matter (Walzer, Breddin, Groch 2008; Drools Fusion 5 User Guide, memory
-- management for events, inferred expiration offset). An example: in `$s : Smoke() $h : Heat( this after[0s,10s] $s )
-- Bell( this after[0s,20s] $h )` a smoke matters 30000 ms, since a heat starts at most 10 s behind its end and a bell at most 30 s (i itself
-- is one of the j, at 0); a heat 20000 ms, for its bell; and a bell 0.
use Rattle.std.specs.{Prelude.{◌≡◌, ℕ, suc, ℤ, pos, true, false, List, take, Option, Some, None, slice_get, ◌⊎◌, if◌then◌else◌}, Int.{int_max}}
use Rattle.fx_base.specs.Lists.{In}
use Rattle.rule_model.specs.declared.condition.{Condition.{Condition, TheVariants.{Plain, Negated, Existing, Folded}}, Pattern.{Pattern}, WindowTag.{WindowTag}}
use Rattle.rule_model.specs.{declared.{condition.WindowTag.TheVariants.{Whole, Time, Length}, program.{Program.{Program}, Rule.{Rule}}}, Rows.{pattern_of}}
use Rattle.rule_model.specs.Types.{is_event, is_reference, expiry_of, lateness_of}
use Rattle.life_meaning.specs.Reach.{Limit, finite, infinite, Below, plus, Placed, IsReach}

-- ---- tails

abbrev pub at_least : Option ℤ → ℤ → ℤ
at_least None n = n
at_least (Some x) n = int_max x n

abbrev pub tail_by : WindowTag → Option ℤ → ℤ → Limit
tail_by Whole expiry lateness = finite (at_least expiry lateness)
tail_by (Time span) expiry lateness = finite (int_max span (at_least expiry lateness))
tail_by (Length count) expiry lateness = infinite

-- How long behind its start an event of a pattern can still come, or still leave: the greatest of the lateness of its entry point, its
-- window of time and its type's expiry. Plain facts and what stands in a window of length can at any time.
unfoldable pub tail : Program → Pattern → Limit
tail p pattern = if is_event p pattern.ty.0 then tail_by pattern.window (expiry_of p pattern.ty.0) (lateness_of p pattern.entry.0) else infinite

-- ---- the life of a pattern

-- What j adds to the life of i: a plain fact makes it infinite; an event adds how far it reaches behind i and its own tail; a j that
-- no solution has adds nothing.
pub data Adds (p : Program) (conditions : List Condition) (i : Placed) (j : Placed) (l : Limit) : Type 0 where
  of_fact : is_event p (pattern_of j.condition).ty.0 ≡ false → l ≡ infinite → Adds p conditions i j l
  of_event : is_event p (pattern_of j.condition).ty.0 ≡ true → (r : Limit) → IsReach p conditions i j r
      → l ≡ plus r (tail p (pattern_of j.condition)) → Adds p conditions i j l

-- The conditions that matter to i: all of the rule where i binds a fact, and else those up to i, since what stands behind it looks at
-- no fact of its pattern.
abbrev pub scope : List Condition → Placed → List Condition
scope rule i = scope_of i.condition
  where
    scope_of : Condition → List Condition
    scope_of (Plain pattern) = rule
    scope_of (Negated pattern) = take (suc i.place) rule
    scope_of (Existing pattern) = take (suc i.place) rule
    scope_of (Folded a) = take (suc i.place) rule

-- j stands among the conditions that matter to i, is on no reference type, whose facts are there before any event and stay, and adds the
-- limit
pub record AddsSome (p : Program) (conditions : List Condition) (i : Placed) (l : Limit) : Type 0 where
  pub j : Placed
  pub stands : slice_get conditions j.place ≡ Some j.condition
  pub changes : is_reference p (pattern_of j.condition).ty.0 ≡ false
  pub adds : Adds p conditions i j l

-- One of the limits of which the life of condition i is the greatest. What stands in a window of time matters as long as that is, and
-- what stands in one of length for ever.
abbrev pub LivesFor : Program → List Condition → Placed → WindowTag → Limit → Type 0
LivesFor p rule i Whole l = AddsSome p (scope rule i) i l
LivesFor p rule i (Time span) l = l ≡ finite span
LivesFor p rule i (Length count) l = l ≡ infinite

-- ---- the life of a type

-- the limit is one of those of the life of some pattern on the type
pub record PatternLife (p : Program) (ty : ℕ) (l : Limit) : Type 0 where
  pub rule : Rule
  pub stands : In rule p.rules
  pub i : Placed
  pub placed : slice_get rule.conditions i.place ≡ Some i.condition
  pub of_type : (pattern_of i.condition).ty.0 ≡ ty
  pub lives : LivesFor p rule.conditions i (pattern_of i.condition).window l

-- the life of an event type without an explicit expiry: the greatest of 0 and of what the patterns on it give
pub record IsLife (p : Program) (ty : ℕ) (l : Limit) : Type 0 where
  pub event : is_event p ty ≡ true
  pub unexpired : expiry_of p ty ≡ None
  pub above_zero : Below (finite (pos 0)) l
  pub above_all : (m : Limit) → PatternLife p ty m → Below m l
  pub reached : (l ≡ finite (pos 0)) ⊎ PatternLife p ty l
