-- Which bounds the finite lives of a table rest on: for each rule, each condition on a type of a finite life that has no window, and each
-- condition that matters to that one and is on no reference type.
use Rattle.std.specs.Prelude.{◌≡◌, ◌++◌, ℕ, suc, ℤ, false, List, [], ◌∷◌, Option, Some, None, slice_get, if◌then◌else◌}
use Rattle.rule_model.specs.declared.{condition.{Condition.{Condition}, WindowTag.{WindowTag, TheVariants.{Whole, Time, Length}}}, life.Life.{Life}}
use Rattle.rule_model.specs.declared.life.Life.TheVariants as life
use Rattle.rule_model.specs.{declared.{life.LifeTable.{LifeTable}, program.{Program.{Program}, Rule.{Rule}}}, Rows.{pattern_of}, Types.{is_reference}}
use Rattle.life_meaning.specs.Lifetimes.{scope}
use Rattle.life_edges.specs.Places.{placed}
use Rattle.life_proof.specs.declared.part.Asked.{Asked}

-- ---- as a relation

-- the places that are asked for are those of conditions: one of a rule, and one that matters to it
pub record HasPlaces (p : Program) (a : Asked) : Type 0 where
  pub rule : Rule
  pub stands : slice_get p.rules a.rule ≡ Some rule
  pub i : Condition
  pub i_stands : slice_get rule.conditions a.from ≡ Some i
  pub j : Condition
  pub j_stands : slice_get (scope rule.conditions (placed a.from i)) a.to ≡ Some j

pub record IsReachAsked (p : Program) (table : LifeTable) (a : Asked) : Type 0 where
  pub places : HasPlaces p a
  pub whole : (pattern_of places.i).window ≡ Whole
  pub life_is : slice_get table.lives (pattern_of places.i).ty.0 ≡ Some (life.Finite a.life)
  pub changes : is_reference p (pattern_of places.j).ty.0 ≡ false

-- ---- as a list, by rule, by the first condition and by the second

-- what each element of a list gives, the first of which has the place n
abbrev pub each_from : {A B : Type 0} → (ℕ → A → List B) → ℕ → List A → List B
each_from f n [] = []
each_from f n (x ∷ xs) = f n x ++ each_from f (suc n) xs

abbrev pub asked_at : ℕ → ℕ → ℕ → ℤ → Asked
asked_at rule from to life = record { rule = rule; from = from; to = to; life = life }

-- for the second condition
abbrev pub asked_to : Program → ℕ → ℕ → ℤ → ℕ → Condition → List Asked
asked_to p rule from life to c = if is_reference p (pattern_of c).ty.0 then [] else (asked_at rule from to life ∷ [])

-- the finite life of what has no window
abbrev pub life_under : WindowTag → Option Life → Option ℤ
life_under Whole (Some (life.Finite n)) = Some n
life_under Whole (Some life.Plain) = None
life_under Whole (Some (life.Explicit n)) = None
life_under Whole (Some life.Infinite) = None
life_under Whole None = None
life_under (Time span) l = None
life_under (Length count) l = None

abbrev pub asked_within : Program → ℕ → List Condition → ℕ → Option ℤ → List Asked
asked_within p rule conditions from (Some n) = each_from (asked_to p rule from n) 0 conditions
asked_within p rule conditions from None = []

-- for the first condition, among all of its rule
abbrev pub asked_from : Program → LifeTable → ℕ → List Condition → ℕ → Condition → List Asked
asked_from p table rule all from c =
    asked_within p rule (scope all (placed from c)) from (life_under (pattern_of c).window (slice_get table.lives (pattern_of c).ty.0))

abbrev pub asked_in : Program → LifeTable → ℕ → Rule → List Asked
asked_in p table place rule = each_from (asked_from p table place rule.conditions) 0 rule.conditions

abbrev pub asked : Program → LifeTable → List Asked
asked p table = each_from (asked_in p table) 0 p.rules
