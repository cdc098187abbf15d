-- How far behind the end of one event another can start, over all solutions of a network.
use Rattle.std.specs.Prelude.{◌≡◌, ℕ, ℤ, ◌+ℤ◌, ◌-ℤ◌, ◌≤ℤ◌, List, [], ◌∷◌}
use Rattle.fx_base.specs.declared.times.Times.{Times}
use Rattle.rule_model.specs.declared.{condition.Condition.{Condition}, program.Program.{Program}}
use Rattle.life_meaning.specs.Networks.{Occurrence, occurrence, SolvesConditions}

-- milliseconds, or for ever
pub data Limit : Type 0 where
  finite : ℤ → Limit
  infinite : Limit

abbrev pub Below : Limit → Limit → Type 0
Below (finite a) (finite b) = a ≤ℤ b
Below infinite (finite b) = ⊥
Below l infinite = Unit {0}

abbrev pub plus : Limit → Limit → Limit
plus (finite a) (finite b) = finite (a +ℤ b)
plus infinite l = infinite
plus (finite a) infinite = infinite

-- a condition by its place
pub record Placed : Type 0 where
  pub place : ℕ
  pub condition : Condition

abbrev pub occurrence_of : List Condition → Placed → Occurrence
occurrence_of conditions c = occurrence conditions c.place c.condition

-- the start of the event of j less the end of that of i
abbrev pub distance : List Condition → Placed → Placed → (Occurrence → Times) → ℤ
distance conditions i j times = (times (occurrence_of conditions j)).start -ℤ (times (occurrence_of conditions i)).end

-- the network of the conditions and of i and j
abbrev pub SolvesWith : Program → List Condition → Placed → Placed → (Occurrence → Times) → Type 0
SolvesWith p conditions i j times = SolvesConditions p conditions (i.place ∷ j.place ∷ []) times

-- the greatest distance over all solutions, which some solution has
pub record IsGreatestReach (p : Program) (conditions : List Condition) (i : Placed) (j : Placed) (most : ℤ) : Type 0 where
  pub bounds : (times : Occurrence → Times) → SolvesWith p conditions i j times → distance conditions i j times ≤ℤ most
  pub times : Occurrence → Times
  pub solves : SolvesWith p conditions i j times
  pub attained : distance conditions i j times ≡ most

-- How far j reaches behind the end of i. Where there is no solution, no limit is the reach.
abbrev pub IsReach : Program → List Condition → Placed → Placed → Limit → Type 0
IsReach p conditions i j (finite most) = IsGreatestReach p conditions i j most
IsReach p conditions i j infinite =
    ((times : Occurrence → Times) × SolvesWith p conditions i j times) × ((most : ℤ) → IsGreatestReach p conditions i j most → ⊥)
