-- Where what is counted of forgotten facts may stand.
use Rattle.std.specs.{Prelude.{◌≡◌, ◌≤◌, ◌^◌, ℕ, suc, false, [], length, IsSorted, Some, slice_get}, Ordering.{int_cmp}}
use Rattle.row_delta.specs.declared.extra.Extra.{Extra}
use Rattle.rule_model.specs.{declared.{condition.Condition.{Condition, TheVariants.{Folded}}, program.{Program.{Program}, Rule.{Rule}}}, Rows.{binds}}
use Rattle.laden_rows.specs.Extras.{IsFirstWith}

-- a number that counts on: at most 2^61
abbrev pub IsSmall : ℕ → Type 0
IsSmall n = n ≤ 2 ^ 61

-- what a condition may gather: an accumulate as many values as it counts facts, rising, and another none
abbrev pub CanGather : Condition → Extra → Type 0
CanGather (Folded a) e = (length e.values ≡ e.count) × IsSorted int_cmp e.values
CanGather c e = e.values ≡ []

-- An extra has its place: a condition that binds no fact, of the first rule that has the conditions up to it.
pub record IsPlaced (p : Program) (e : Extra) : Type 0 where
  pub rule : Rule
  pub stands : slice_get p.rules e.rule.0 ≡ Some rule
  pub condition : Condition
  pub placed : slice_get rule.conditions e.condition ≡ Some condition
  pub aside : binds condition ≡ false
  pub first : IsFirstWith p (suc e.condition) rule.conditions e.rule.0
  pub some : 1 ≤ e.count
  pub small : IsSmall e.count
  pub gathered : CanGather condition e
