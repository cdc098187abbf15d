-- The walk over the versions of an id, from the newest down.
use Rattle.fact_store.proofs.Common.{◌≡◌, ◌∙◌, sym, ap, refl, ℕ, ◌+◌, ◌<◌, ◌≤◌, ◌⊎◌, inl, inr, Bool, true, false, List, Option, Some, None, arith, IfSome}
use Rattle.fact_store.proofs.Common.{IfNone, nat_eq, cases_lt, exact_unsigned_eq, Slab, NumberMap, Fact, has_pair, is_held_of_type, fact_in_slot}
use Rattle.fx_base.proofs.{Orders.{eqb-self}, Tests.{both_ways_absurd}}

-- the walk has passed this tag
abbrev pub IsPassed : Option ℕ → ℕ → Type 0
IsPassed None other = Unit {0}
IsPassed (Some at) other = at < other

-- how far the walk can still go
abbrev pub rank : Option ℕ → ℕ
rank None = 0
rank (Some at) = at + 1

-- the walk stands at a version of the id, and no version that it has passed is of the type
pub record Walks (slots : Slab Fact) (tags : NumberMap) (pairs : List (ℕ × ℕ)) (ty id : ℕ) (next : Option ℕ) : Type 0 where
  pub there : IfSome next (λ at. has_pair pairs (id, at) ≡ true)
  pub passed : (other : ℕ) → has_pair pairs (id, other) ≡ true → IsPassed next other → is_held_of_type ty (fact_in_slot slots tags other) ≡ false

beyond : (at other : ℕ) → at ≤ other → nat_eq at other ≡ false → at < other
beyond at other most e = let differ : at ≡ other → ⊥ = λ same. both_ways_absurd (nat_eq at other) (ap (λ n. nat_eq at n) (sym same) ∙ eqb-self at) e in omega (arith, most, differ)

module _ (slots : Slab Fact) (tags : NumberMap) (pairs : List (ℕ × ℕ)) (ty id : ℕ) where
  pub begins : (o : Option ℕ) → IfSome o (λ tag. has_pair pairs (id, tag) ≡ true) → IfSome o (λ tag. (other : ℕ) → has_pair pairs (id, other) ≡ true → other ≤ tag)
      → IfNone o ((other : ℕ) → has_pair pairs (id, other) ≡ false) → Walks slots tags pairs ty id o
  begins None found greatest none = record { there = tt; passed = λ other held p. both_ways_absurd (has_pair pairs (id, other)) held (none other) }
  begins (Some tag) found greatest none = record { there = found; passed = λ other held p. let l = greatest other held in absurd (omega (arith, l, p)) }

  pub goes_on : (at : ℕ) (o : Option ℕ) → Walks slots tags pairs ty id (Some at) → is_held_of_type ty (fact_in_slot slots tags at) ≡ false
      → IfSome o (λ lower. (has_pair pairs (id, lower) ≡ true) × (lower < at)) → IfSome o (λ lower. (other : ℕ) → has_pair pairs (id, other) ≡ true → other < at → other ≤ lower)
      → IfNone o ((other : ℕ) → has_pair pairs (id, other) ≡ true → at ≤ other) → Walks slots tags pairs ty id o
  goes_on at None walks apart found greatest none = record {
    there = tt;
    passed = λ other held p. at_or_past at apart walks other held (none other held) (nat_eq at other) refl;
  }
    where
      at_or_past : (at : ℕ) → is_held_of_type ty (fact_in_slot slots tags at) ≡ false → Walks slots tags pairs ty id (Some at) → (other : ℕ) → has_pair pairs (id, other) ≡ true → at ≤ other
          → (b : Bool) → nat_eq at other ≡ b → is_held_of_type ty (fact_in_slot slots tags other) ≡ false
      at_or_past at apart walks other held most true e = ap (λ n. is_held_of_type ty (fact_in_slot slots tags n)) (sym (exact_unsigned_eq at other e)) ∙ apart
      at_or_past at apart walks other held most false e = walks.passed other held (beyond at other most e)
  goes_on at (Some lower) walks apart found greatest none = record {
    there = found.0;
    passed = λ other held p. by other held p (cases_lt other at) (nat_eq at other) refl;
  }
    where
      by : (other : ℕ) → has_pair pairs (id, other) ≡ true → lower < other → (other < at) ⊎ (at ≤ other) → (b : Bool) → nat_eq at other ≡ b → is_held_of_type ty (fact_in_slot slots tags other) ≡ false
      by other held p (inl less) b e = let l = greatest other held less in absurd (omega (arith, l, p))
      by other held p (inr most) true e = ap (λ n. is_held_of_type ty (fact_in_slot slots tags n)) (sym (exact_unsigned_eq at other e)) ∙ apart
      by other held p (inr most) false e = walks.passed other held (beyond at other most e)

  pub falls : (at : ℕ) (o : Option ℕ) → IfSome o (λ lower. (has_pair pairs (id, lower) ≡ true) × (lower < at)) → rank o < rank (Some at)
  falls at None found = omega arith
  falls at (Some lower) found = let l = found.1 in omega (arith, l)
