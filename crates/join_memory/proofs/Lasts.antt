-- Lists as their front and their last element.
use Rattle.join_memory.proofs.Common.{◌≡◌, ap, refl, subst, List, [], ◌∷◌, ◌++◌, Option, Some, None, split_last, behind_first}

pub split_snoc : {A : Type 0} (xs : List A) (x : A) → split_last (xs ++ x ∷ []) ≡ Some (xs, x)
split_snoc [] x = refl
split_snoc (y ∷ ys) x = ap (λ o. Some (behind_first y o)) (split_snoc ys x)

-- the list has this front and last element, or it is empty
abbrev pub IsSplit : {A : Type 0} → List A → Option (List A × A) → Type 0
IsSplit xs None = xs ≡ []
IsSplit xs (Some p) = xs ≡ p.0 ++ p.1 ∷ []

behind_split : {A : Type 0} (x : A) (xs : List A) (o : Option (List A × A)) → IsSplit xs o → IsSplit (x ∷ xs) (Some (behind_first x o))
behind_split x xs None e = ap (λ ys. x ∷ ys) e
behind_split x xs (Some p) e = ap (λ ys. x ∷ ys) e

pub is_split : {A : Type 0} (xs : List A) → IsSplit xs (split_last xs)
is_split [] = refl
is_split (x ∷ xs) = behind_split x xs (split_last xs) (is_split xs)

pub is_snoc : {A : Type 0} (xs : List A) (p : List A × A) → split_last xs ≡ Some p → xs ≡ p.0 ++ p.1 ∷ []
is_snoc xs p e = subst (λ o. IsSplit xs o) e (is_split xs)
