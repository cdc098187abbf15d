-- What the lives say of other rules.
use Rattle.change_rules.proofs.Common.{IsLongerAt, Life, LifeTable, List, None, Option, Program, Some, TypeInfo, [], ap, arith, length, refl, slice_get_within}
use Rattle.{change_rules.{proofs.Common.{sym, type_named, ℕ, ◌<◌, ◌∙◌, ◌∷◌, ◌≡◌, ◌≤◌}, specs.Judged.{IsFirstType}}, fx_base.specs.declared.ids.TypeId.{TypeId}}
use Rattle.{rule_change.specs.{Changed.{carried, carried_lives, type_in}, Refused.{IsLonger}}, std.specs.{Option.{option_and_then}, Prelude.{slice_get}}}

-- a type that is found by its place stands there
pub type_within : (p q : Program) (ty : ℕ) (there : ℕ × TypeInfo) → type_in q p ty ≡ Some there → ty < length q.types
type_within p q ty there e = by (slice_get q.types ty) refl e
  where
    by : (o : Option TypeInfo) → slice_get q.types ty ≡ o → option_and_then (λ (u : TypeInfo). type_named u.name p.types 0) o ≡ Some there → ty < length q.types
    by None at h = absurd (let torn : None ≡ Some there = h in cc)
    by (Some u) at h = slice_get_within q.types ty u at

-- no more lives are carried than there are types
pub carried_few : (old : List TypeInfo) (table : LifeTable) (types : List TypeInfo) (own : List Life) → length (carried_lives old table types own) ≤ length types
unfolding carried_lives
carried_few old table [] own = omega arith
carried_few old table (ty ∷ types) [] = omega arith
carried_few old table (ty ∷ types) (life ∷ own) = let few = carried_few old table types own in omega (arith, few)

module _ (p q : Program) (table own : LifeTable) (needs lives : List Life) (own_is : needs ≡ own.lives) (kept_is : lives ≡ (carried p q table own).lives) where
  longer : (ty : ℕ) → IsLongerAt needs lives ty → IsLonger p q table own ty
  longer ty h = record {
    needs = h.0;
    needed = ap (λ (xs : List Life). slice_get xs ty) (sym own_is) ∙ h.1;
    life = h.2;
    kept = ap (λ (xs : List Life). slice_get xs ty) (sym kept_is) ∙ h.3;
    longer = h.4;
  }

  longer_at : (ty : ℕ) → IsLonger p q table own ty → IsLongerAt needs lives ty
  longer_at ty h = (
    h.needs,
    ap (λ (xs : List Life). slice_get xs ty) own_is ∙ h.needed,
    h.life,
    ap (λ (xs : List Life). slice_get xs ty) kept_is ∙ h.kept,
    h.longer,
  )

  pub first_is : (found : Option TypeId) → IsFirstType (IsLongerAt needs lives) found → IsFirstType (IsLonger p q table own) found
  first_is None none = λ ty h. none ty (longer_at ty h)
  first_is (Some ty) first = record { holds = longer ty.0 first.holds; none_before = λ earlier less h. first.none_before earlier less (longer_at earlier h) }
