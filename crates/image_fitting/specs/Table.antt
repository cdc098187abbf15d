-- The table of the first rules that have the conditions of each rule up to each of them, and the places of extras by it.
use Rattle.std.specs.Prelude.{◌≡◌, ◌==◌, ◌≤◌, ℕ, suc, Bool, true, false, List, length, Option, Some, None, slice_get}
use Rattle.row_delta.specs.declared.extra.Extra.{Extra}
use Rattle.rule_model.specs.declared.{condition.Condition.{Condition}, life.{Life.{Life, TheVariants.{Finite}}, LifeTable.{LifeTable}}}
use Rattle.rule_model.specs.{declared.program.{Program.{Program}, Rule.{Rule}}, Rows.{pattern_of, binds}}
use Rattle.laden_rows.specs.{Extras.{IsFirstWith}, Placed.{IsSmall, CanGather}}

-- for each of these conditions the first rule that has them up to that one
pub record AreFirsts (p : Program) (conditions : List Condition) (firsts : List ℕ) : Type 0 where
  pub as_many : length firsts ≡ length conditions
  pub each : (k place : ℕ) → slice_get firsts k ≡ Some place → IsFirstWith p (suc k) conditions place

-- those of each rule, by its place
pub record IsPlaceTable (p : Program) (table : List (List ℕ)) : Type 0 where
  pub each : (place : ℕ) (rule : Rule) → slice_get p.rules place ≡ Some rule → (firsts : List ℕ) × (slice_get table place ≡ Some firsts) × AreFirsts p rule.conditions firsts

abbrev pub first_at : Option (List ℕ) → ℕ → Option ℕ
first_at None k = None
first_at (Some firsts) k = slice_get firsts k

abbrev pub is_place : Option ℕ → ℕ → Bool
is_place None place = false
is_place (Some first) place = first == place

-- the table has the rule in this place as the first at one of its conditions
abbrev pub is_first : List (List ℕ) → ℕ → ℕ → Bool
is_first table place k = is_place (first_at (slice_get table place) k) place

abbrev pub is_finite : Option Life → Bool
is_finite (Some (Finite life)) = true
is_finite other = false

-- a condition on events of a finite life may count and gather what an extra says
pub record CanCount (table : LifeTable) (condition : Condition) (e : Extra) : Type 0 where
  pub aside : binds condition ≡ false
  pub gathered : CanGather condition e
  pub finite : is_finite (slice_get table.lives (pattern_of condition).ty.0) ≡ true
  pub some : 1 ≤ e.count
  pub small : IsSmall e.count
