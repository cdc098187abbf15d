-- Limits of the code as those of the definitions, and conditions whose reaches and tails 64 bits can add.
use Rattle.std.specs.Prelude.{◌≡◌, ◌^◌, ◌≤ℤ◌, ℕ, ℤ, pos, List, Some, slice_get}
use Rattle.fx_base.specs.declared.bound.Bound.{Bound, TheVariants.{Finite, Infinite}}
use Rattle.rule_model.specs.declared.{condition.{Condition.{Condition}, WindowTag.{WindowTag, TheVariants.{Whole, Time, Length}}}, program.Program.{Program}}
use Rattle.rule_model.specs.Rows.{pattern_of}
use Rattle.rule_world.specs.Events.{most_millis}
use Rattle.life_meaning.specs.{Lifetimes.{tail}, Reach.{Limit, finite, infinite}}
use Rattle.life_edges.specs.Edges.{HaveNetwork}

abbrev pub limit_of : Bound → Limit
limit_of (Finite most) = finite most
limit_of Infinite = infinite

-- from 0 to 2^53 ms
abbrev pub IsShortSpan : ℤ → Type 0
IsShortSpan n = (pos 0 ≤ℤ n) × (n ≤ℤ most_millis)

-- the same, where it is finite
abbrev pub IsShortLimit : Limit → Type 0
IsShortLimit (finite n) = IsShortSpan n
IsShortLimit infinite = Unit {0}

-- a window of time is
abbrev pub HasShortWindow : WindowTag → Type 0
HasShortWindow Whole = Unit {0}
HasShortWindow (Time span) = IsShortSpan span
HasShortWindow (Length count) = Unit {0}

-- conditions for whose patterns lives are found: they have a network, and their windows and tails are short
pub record HaveLives (p : Program) (conditions : List Condition) : Type 0 where
  pub network : HaveNetwork conditions
  pub windows : (place : ℕ) (c : Condition) → slice_get conditions place ≡ Some c → HasShortWindow (pattern_of c).window
  pub tails : (place : ℕ) (c : Condition) → slice_get conditions place ≡ Some c → IsShortLimit (tail p (pattern_of c))

-- at most 2^62 ms, where it is finite
abbrev pub IsSmallLimit : Limit → Type 0
IsSmallLimit (finite n) = n ≤ℤ pos (2 ^ 62)
IsSmallLimit infinite = Unit {0}
