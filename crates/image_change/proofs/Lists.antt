-- Lists: their first members, and members under other names.
use Rattle.image_change.proofs.Common.{Bool, In, List, Some, [], ap, cond, false, inl, inr, map, option_map, refl, slice_get, suc, take, true, zero, ℕ, ◌∙◌}
use Rattle.{image_change.proofs.Common.{◌∷◌, ◌≡◌}, std.specs.{List.{AllByRecursion, find, Sorted.{IsStrictlySortedBy}}, declared.cmp.Ordering.{Ordering}}}
use Rattle.std.specs.declared.cmp.Ordering.TheVariants.{Less}

pub at_last : {A : Type 0} (n : ℕ) (xs : List A) → slice_get (take (suc n) xs) n ≡ slice_get xs n
at_last zero [] = refl
at_last (suc n) [] = refl
at_last zero (x ∷ xs) = refl
at_last (suc n) (x ∷ xs) = at_last n xs

pub take_fewer : {A : Type 0} (n : ℕ) (xs : List A) → take n (take (suc n) xs) ≡ take n xs
take_fewer zero xs = refl
take_fewer (suc n) [] = refl
take_fewer (suc n) (x ∷ xs) = ap (λ zs. x ∷ zs) (take_fewer n xs)

pub in_take : {A : Type 0} (n : ℕ) (xs : List A) (x : A) → In x (take n xs) → In x xs
in_take zero xs x i = absurd i
in_take (suc n) [] x i = i
in_take (suc n) (y ∷ xs) x (inl e) = inl e
in_take (suc n) (y ∷ xs) x (inr i) = inr (in_take n xs x i)

module _ {A B : Type 0} (g : A → B) where
  pub find_mapped : (test : B → Bool) (xs : List A) → find test (map g xs) ≡ option_map g (find (λ (x : A). test (g x)) xs)
  find_mapped test [] = refl
  find_mapped test (x ∷ xs) = ap (cond (test (g x)) (Some (g x))) (find_mapped test xs) ∙ by (test (g x))
    where
      by : (b : Bool) → cond b (Some (g x)) (option_map g (find (λ (y : A). test (g y)) xs)) ≡ option_map g (cond b (Some x) (find (λ (y : A). test (g y)) xs))
      by true = refl
      by false = refl

  module _ (before : A → A → Ordering) (after : B → B → Ordering) (same : (x y : A) → after (g x) (g y) ≡ before x y) where
    below_mapped : (x : A) (xs : List A) → AllByRecursion (λ y. before x y ≡ Less) xs → AllByRecursion (λ y. after (g x) y ≡ Less) (map g xs)
    below_mapped x [] b = tt
    below_mapped x (y ∷ xs) b = (same x y ∙ b.0, below_mapped x xs b.1)

    pub sorted_mapped : (xs : List A) → IsStrictlySortedBy before xs → IsStrictlySortedBy after (map g xs)
    unfolding IsStrictlySortedBy
    sorted_mapped [] s = tt
    sorted_mapped (x ∷ xs) s = (below_mapped x xs s.0, sorted_mapped xs s.1)
