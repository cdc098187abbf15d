-- The lines of lives, type by type.
use Rattle.replay.proofs.Common.{◌≡◌, ◌⊎◌, inl, inr, ◌<◌, ◌++◌, ℕ, zero, suc, List, [], ◌∷◌, length, drop, get_or, refl, sym, ap, ◌∙◌, arith, append_assoc}
use Rattle.{replay.proofs.Common.{append-nil, length-append, Life, life_text, lives_text}, rule_model.specs.declared.program.TypeInfo.{TypeInfo}}

-- the first of the rest
from_place : {A : Type 0} (xs : List A) (n : ℕ) (x : A) → n < length xs → ((d : A) → x ≡ get_or xs n d) → drop n xs ≡ x ∷ drop (suc n) xs
from_place [] n x h is = absurd (omega (arith, h))
from_place (y ∷ ys) zero x h is = ap (λ z. z ∷ ys) (sym (is x))
from_place (y ∷ ys) (suc n) x h is = from_place ys n x (omega (arith, h)) is

pub one_more : {A : Type 0} (xs : List A) (x : A) → length (xs ++ x ∷ []) ≡ suc (length xs)
one_more xs x = length-append xs (x ∷ []) ∙ omega arith

-- one type more
pub next_life : (types : List TypeInfo) (lives : List Life) (n m : ℕ) (ty : TypeInfo) (life : Life) (before after all : List ℕ)
    → (n < length types) × (n < length lives) × ((d : TypeInfo) → ty ≡ get_or types n d) × ((d : Life) → life ≡ get_or lives n d)
    → before ++ lives_text (drop n types) (drop n lives) ≡ all → after ≡ before ++ life_text ty.name life
    → m ≡ suc n → after ++ lives_text (drop m types) (drop m lives) ≡ all
next_life types lives n m ty life before after all at so_far text more =
    let this : lives_text (drop n types) (drop n lives) ≡ life_text ty.name life ++ lives_text (drop (suc n) types) (drop (suc n) lives) =
    rw (from_place types n ty at.0 at.2, from_place lives n life at.1 at.3) refl in
    ap (λ (k : ℕ). after ++ lives_text (drop k types) (drop k lives)) more
    ∙ ap (λ z. z ++ lives_text (drop (suc n) types) (drop (suc n) lives)) text
    ∙ append_assoc before (life_text ty.name life) (lives_text (drop (suc n) types) (drop (suc n) lives))
    ∙ ap (λ z. before ++ z) (sym this) ∙ so_far

no_lives : (types : List TypeInfo) → lives_text types [] ≡ []
no_lives [] = refl
no_lives (ty ∷ types) = refl

none_left : (types : List TypeInfo) (lives : List Life) → (types ≡ []) ⊎ (lives ≡ []) → lives_text types lives ≡ []
none_left types lives (inl e) = rw e refl
none_left types lives (inr e) = ap (lives_text types) e ∙ no_lives types

-- the rests of two lists, of which one is empty
pub one_empty : {A B : Type 0} (n : ℕ) (ks all left : List A) (vs all' left' : List B) → all ≡ ks → all' ≡ vs → left ≡ drop n all → left' ≡ drop n all' → (left ≡ []) ⊎ (left' ≡ [])
    → (drop n ks ≡ []) ⊎ (drop n vs ≡ [])
one_empty n ks all left vs all' left' first second at at' (inl e) = inl (ap (drop n) (sym first) ∙ sym at ∙ e)
one_empty n ks all left vs all' left' first second at at' (inr e) = inr (ap (drop n) (sym second) ∙ sym at' ∙ e)

-- no type is left
pub last_life : (types : List TypeInfo) (lives : List Life) (n : ℕ) (text all : List ℕ) → (drop n types ≡ []) ⊎ (drop n lives ≡ [])
    → text ++ lives_text (drop n types) (drop n lives) ≡ all → text ≡ all
last_life types lives n text all empty so_far = sym (append-nil text) ∙ ap (λ z. text ++ z) (sym (none_left (drop n types) (drop n lives) empty)) ∙ so_far
