-- The places of extras by the table of the first rules, and the owners that the table has.
use Rattle.image_fitting.proofs.Common.{◌≡◌, ◌↔◌, ◌∙◌, ℕ, suc, ◌<◌, ℤ, Bool, true, false, List, length, Option, Some, None, IsTrue, refl, sym, ap, subst, arith}
use Rattle.image_fitting.proofs.Common.{slice_get, slice_index_or, none-some, slice_get_within, slice_get-get_or, same_Some, Extra, Condition, Life, Plain}
use Rattle.image_fitting.proofs.Common.{Explicit, Finite, Infinite, LifeTable, Program, Rule, IsFirstWith, IsForgettable, AreOwners, IsPlaceTable, first_at}
use Rattle.{image_fitting.proofs.Common.{is_place, is_first, is_finite, CanCount}, std.proofs.lemmas.Bool.{eq-eqb, eqb-true}}
use Rattle.rule_model.specs.Rows.{pattern_of}

pub one_first : (p : Program) (n : ℕ) (conditions : List Condition) (a b : ℕ) → IsFirstWith p n conditions a → IsFirstWith p n conditions b → a ≡ b
one_first p n conditions a b x y =
    let not_below : a < b → ⊥ = λ less. y.earlier a x.rule less x.stands x.begins in
    let not_above : b < a → ⊥ = λ less. x.earlier b y.rule less y.stands y.begins in
    omega arith

-- ---- the first rule that the table has

module _ (p : Program) (table : List (List ℕ)) (is : IsPlaceTable p table) where
  abbrev first_in : (place : ℕ) (rule : Rule) (k : ℕ) → Type 0
  first_in place rule k = (owner : ℕ) × (first_at (slice_get table place) k ≡ Some owner) × IsFirstWith p (suc k) rule.conditions owner

  found : (place : ℕ) (rule : Rule) → slice_get p.rules place ≡ Some rule → (k : ℕ) → k < length rule.conditions → first_in place rule k
  found place rule stands k less =
      let r = is.each place rule stands in
      let inside : k < length r.0 = subst (λ n. k < n) (sym r.2.as_many) less in
      let at : slice_get r.0 k ≡ Some (slice_index_or r.0 k 0) = slice_get-get_or r.0 k 0 inside in
      (slice_index_or r.0 k 0, ap (λ o. first_at o k) r.1 ∙ at, r.2.each k (slice_index_or r.0 k 0) at)

  first_of : (place : ℕ) (rule : Rule) → slice_get p.rules place ≡ Some rule → (k : ℕ) → k < length rule.conditions → is_first table place k ≡ true → IsFirstWith p (suc k) rule.conditions place
  first_of place rule stands k less e =
      let r = found place rule stands k less in
      subst (λ n. IsFirstWith p (suc k) rule.conditions n) (eqb-true r.0 place (ap (λ o. is_place o place) (sym r.1) ∙ e)) r.2

  of_first : (place : ℕ) (rule : Rule) → slice_get p.rules place ≡ Some rule → (k : ℕ) → k < length rule.conditions → IsFirstWith p (suc k) rule.conditions place → is_first table place k ≡ true
  of_first place rule stands k less x =
      let r = found place rule stands k less in
      ap (λ o. is_place o place) r.1 ∙ eq-eqb r.0 place (one_first p (suc k) rule.conditions r.0 place r.2 x)

  -- ---- owners

  owner_in : Option ℕ → ℕ
  owner_in None = 0
  owner_in (Some owner) = owner

  pub table_owners : (owners : ℕ → ℕ → ℕ) × AreOwners p owners
  unfolding owner_in
  table_owners = (
    λ place k. owner_in (first_at (slice_get table place) k),
    λ place k rule stands less. (let r = found place rule stands k less in subst (λ n. IsFirstWith p (suc k) rule.conditions n) (sym (ap owner_in r.1)) r.2),
  )

-- ---- an extra

finite_life : (o : Option Life) → is_finite o ≡ true → (life : ℤ) × (o ≡ Some (Finite life))
finite_life None e = absurd (let n : false ≡ true = e in cc)
finite_life (Some Plain) e = absurd (let n : false ≡ true = e in cc)
finite_life (Some (Explicit n)) e = absurd (let n : false ≡ true = e in cc)
finite_life (Some (Finite n)) e = (n, refl)
finite_life (Some Infinite) e = absurd (let n : false ≡ true = e in cc)

module _ (p : Program) (lives : LifeTable) (table : List (List ℕ)) (e : Extra) where
  pub no_rule : slice_get p.rules e.rule.0 ≡ None → IsForgettable p lives e → ⊥
  no_rule at x = none-some x.place.rule (sym at ∙ x.place.stands)

  pub no_condition : (rule : Rule) → slice_get p.rules e.rule.0 ≡ Some rule → slice_get rule.conditions e.condition ≡ None → IsForgettable p lives e → ⊥
  no_condition rule stands at x =
      let same : rule ≡ x.place.rule = same_Some rule x.place.rule (sym stands ∙ x.place.stands) in
      none-some x.place.condition (sym at ∙ ap (λ (r : Rule). slice_get r.conditions e.condition) same ∙ x.place.placed)

  pub placed_is : (r : Bool) (rule : Rule) (condition : Condition) → slice_get p.rules e.rule.0 ≡ Some rule → slice_get rule.conditions e.condition ≡ Some condition
      → IsTrue r ↔ ((is_first table e.rule.0 e.condition ≡ true) × CanCount lives condition e) → IsPlaceTable p table → IsTrue r ↔ IsForgettable p lives e
  placed_is r rule condition stands placed is whole = (to, from)
    where
      inside : e.condition < length rule.conditions
      inside = slice_get_within rule.conditions e.condition condition placed

      to : IsTrue r → IsForgettable p lives e
      to h =
          let parts = is.0 h in
          let life = finite_life (slice_get lives.lives (pattern_of condition).ty.0) parts.1.finite in
          record {
            place = record {
              rule = rule;
              stands = stands;
              condition = condition;
              placed = placed;
              aside = parts.1.aside;
              first = first_of p table whole e.rule.0 rule stands e.condition inside parts.0;
              some = parts.1.some;
              small = parts.1.small;
              gathered = parts.1.gathered;
            };
            life = life.0;
            finite = life.1;
          }

      counts : (x : IsForgettable p lives e) → x.place.rule ≡ rule → x.place.condition ≡ condition → (is_first table e.rule.0 e.condition ≡ true) × CanCount lives condition e
      counts x same alike = (
        of_first p table whole e.rule.0 rule stands e.condition inside (subst (λ (z : Rule). IsFirstWith p (suc e.condition) z.conditions e.rule.0) same x.place.first),
        subst (λ (z : Condition). CanCount lives z e) alike (record { aside = x.place.aside; gathered = x.place.gathered; finite = ap is_finite x.finite; some = x.place.some; small = x.place.small }),
      )

      from : IsForgettable p lives e → IsTrue r
      from x =
          let same : x.place.rule ≡ rule = same_Some x.place.rule rule (sym x.place.stands ∙ stands) in
          is.1 (counts x same (same_Some x.place.condition condition (sym x.place.placed ∙ ap (λ (z : Rule). slice_get z.conditions e.condition) same ∙ placed)))
