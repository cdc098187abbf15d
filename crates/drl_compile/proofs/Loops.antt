-- A list that a loop makes item by item: what is made so far, and what is to be made of the rest, are all of it.
use Rattle.drl_compile.proofs.Common.{◌≡◌, ◌+◌, ◌<◌, ◌≤◌, ◌++◌, ◌∷◌, ℕ, Bool, true, false, List, [], length, map, get_or, drop, refl, sym, ap, ◌∙◌}
use Rattle.drl_compile.proofs.Common.{append_assoc, filter, flat_map, at_drop_more, at_drop_all, append-nil}

-- one turn adds what the next item makes
pub one_more : {A B : Type 0} (of : List A → List B) (xs : List A) (k : ℕ) (x : A) (made more now all : List B)
    → k < length xs → x ≡ get_or xs k x → of (x ∷ drop (k + 1) xs) ≡ more ++ of (drop (k + 1) xs) → now ≡ made ++ more
    → made ++ of (drop k xs) ≡ all → now ++ of (drop (k + 1) xs) ≡ all
one_more of xs k x made more now all lt is step added so =
    ap (λ front. front ++ of (drop (k + 1) xs)) added ∙ append_assoc made more (of (drop (k + 1) xs))
    ∙ ap (λ rest. made ++ rest) (sym step ∙ ap (λ y. of (y ∷ drop (k + 1) xs)) is ∙ sym (at_drop_more of xs k x lt)) ∙ so

-- the same, where each item makes one
pub one_mapped : {A B : Type 0} (f : A → B) (xs : List A) (k : ℕ) (x : A) (y : B) (made now all : List B)
    → k < length xs → x ≡ get_or xs k x → y ≡ f x → now ≡ made ++ y ∷ []
    → made ++ map f (drop k xs) ≡ all → now ++ map f (drop (k + 1) xs) ≡ all
one_mapped f xs k x y made now all lt is same added so =
    one_more (map f) xs k x made (y ∷ []) now all lt is (ap (λ z. z ∷ map f (drop (k + 1) xs)) (sym same)) added so

-- the same, where each item that passes a test makes some
pub one_passed : {A B : Type 0} (f : A → List B) (p : A → Bool) (xs : List A) (k : ℕ) (x : A) (made now all : List B)
    → k < length xs → x ≡ get_or xs k x → p x ≡ true → now ≡ made ++ f x
    → made ++ flat_map f (filter p (drop k xs)) ≡ all → now ++ flat_map f (filter p (drop (k + 1) xs)) ≡ all
one_passed f p xs k x made now all lt is passes added so = one_more (λ rest. flat_map f (filter p rest)) xs k x made (f x) now all lt is (rw passes refl) added so

pub one_left_out : {A B : Type 0} (f : A → List B) (p : A → Bool) (xs : List A) (k : ℕ) (x : A) (made now all : List B)
    → k < length xs → x ≡ get_or xs k x → p x ≡ false → now ≡ made
    → made ++ flat_map f (filter p (drop k xs)) ≡ all → now ++ flat_map f (filter p (drop (k + 1) xs)) ≡ all
one_left_out f p xs k x made now all lt is fails same so =
    one_more (λ rest. flat_map f (filter p rest)) xs k x made [] now all lt is (rw fails refl) (same ∙ sym (append-nil made)) so

-- behind the last turn all is made
pub all_made : {A B : Type 0} (of : List A → List B) (xs : List A) (k : ℕ) (made now all : List B)
    → length xs ≤ k → of [] ≡ [] → now ≡ made → made ++ of (drop k xs) ≡ all → now ≡ all
all_made of xs k made now all over none is so = is ∙ sym (append-nil made) ∙ ap (λ rest. made ++ rest) (sym (at_drop_all of xs k over ∙ none)) ∙ so
