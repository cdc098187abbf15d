-- What a fold holds, and how its values lie in a map.
use Rattle.std.specs.{Prelude.{◌≡◌, ℕ, ◌+◌, ◌^◌, ◌<◌, ℤ, cond, List, [], ◌∷◌, ◌++◌, length, replicate, Option, IfSome, FitsSigned, All}, Int.{w64}}
use Rattle.std.specs.{Ordering.{int_eq}, Map.{count_at}}
use Rattle.fold_fn.specs.{declared.kind.FoldKind.{FoldKind}, Results.{total}}

-- what a fold computes, and its values in rising order
pub record Held : Type 0 where
  pub kind : FoldKind
  pub values : List ℤ

-- each number as often as its entry says
abbrev pub repeated : List (ℤ × ℕ) → List ℤ
repeated [] = []
repeated (e ∷ es) = replicate e.1 e.0 ++ repeated es

-- a map from numbers to how often they are there has v once more than it had, and every other number as often
abbrev pub HasOneMore : (ℤ → Option ℕ) → (ℤ → Option ℕ) → ℤ → Type 0
HasOneMore old new v = (q : ℤ) → count_at new q ≡ cond (int_eq v q) (count_at old v + 1) (count_at old q)

-- no number that the map has is there no time
abbrev pub NoneIsZero : (ℤ → Option ℕ) → Type 0
NoneIsZero times = (q : ℤ) → IfSome (times q) (λ n. 0 < n)

-- a count and a sum are those of the numbers, each of which fits 64 bits
pub record AreTotals (values : List ℤ) (count : ℕ) (sum : ℤ) : Type 0 where
  pub counted : count ≡ length values
  pub few : count < 2 ^ 63
  pub summed : sum ≡ total values
  pub fit : All (FitsSigned w64) values
