-- Members by their places.
use Rattle.fan_join.proofs.Common.{nat_cmp, eq_by_cmp, Bool, true, false, cond, ◌||◌, ◌≡◌, ◌∙◌, sym, ap, refl, ℕ, ◌+◌, ◌<◌, List, [], ◌∷◌, ◌++◌, length, Some}
use Rattle.{fan_join.proofs.Common.{None, slice_get, ◌⊎◌, inl, inr}, std.proofs.{lemmas.Bool.Decides.{nat_tests}, Common.{arith, suc, zero}}}
use Rattle.fx_base.proofs.Orders.{eq_by_nat_cmp-flip}

-- what stands in a list with one element more stood there, or is that element
pub last_or_before : {A : Type 0} (xs : List A) (x : A) (k : ℕ) (y : A) → slice_get (xs ++ x ∷ []) k ≡ Some y → (slice_get xs k ≡ Some y) ⊎ (y ≡ x)
last_or_before [] x zero y e = inr (let is : x ≡ y = cc in sym is)
last_or_before [] x (suc k) y e = absurd (let no : None ≡ Some y = e in cc)
last_or_before (z ∷ xs) x zero y e = inl e
last_or_before (z ∷ xs) x (suc k) y e = last_or_before xs x k y e

-- and it stands in the last place
pub seam_or_before : {A : Type 0} (xs : List A) (x : A) (k : ℕ) (y : A) → slice_get (xs ++ x ∷ []) k ≡ Some y → (slice_get xs k ≡ Some y) ⊎ ((k ≡ length xs) × (x ≡ y))
seam_or_before [] x zero y e = inr (refl, cc)
seam_or_before [] x (suc k) y e = absurd (let no : None ≡ Some y = e in cc)
seam_or_before (z ∷ xs) x zero y e = inl e
seam_or_before (z ∷ xs) x (suc k) y e = elim (seam_or_before xs x k y e) [
  | inl before ↦ inl before
  | inr last ↦ inr (ap suc last.0, last.1)
]

module _ (place k : ℕ) (old now : Bool) (is : now ≡ cond (eq_by_cmp nat_cmp place k) true old) where
  -- what is put in a place is there, and the rest stays
  pub put_stays : old ≡ true → now ≡ true
  put_stays was = by (eq_by_cmp nat_cmp place k) is
    where
      by : (t : Bool) → now ≡ cond t true old → now ≡ true
      by true e = e
      by false e = e ∙ was

  -- one of those to come
  pub put_next : (next : Bool) → (old || (eq_by_cmp nat_cmp k place || next)) ≡ true → (now || next) ≡ true
  put_next next was = by (eq_by_cmp nat_cmp place k) is (ap (λ t. old || (t || next)) (eq_by_nat_cmp-flip place k) ∙ was)
    where
      by : (t : Bool) → now ≡ cond t true old → (old || (t || next)) ≡ true → (now || next) ≡ true
      by true e h = ap (λ b. b || next) e
      by false e h = ap (λ b. b || next) e ∙ h

  -- all below the next one
  pub put_below : (k < place → old ≡ true) → k < place + 1 → now ≡ true
  put_below before below = by (eq_by_cmp nat_cmp place k) refl is
    where
      by : (t : Bool) → eq_by_cmp nat_cmp place k ≡ t → now ≡ cond t true old → now ≡ true
      by true e f = f
      by false e f = f ∙ before (grind (arith, nat_tests))
