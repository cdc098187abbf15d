-- Lists of places by number: what they have stays where more is put.
use Rattle.rete_net.proofs.Common.{◌≡◌, ◌∙◌, sym, ap, ℕ, zero, suc, arith, ◌||◌, Bool, true, false, List, [], ◌∷◌, ◌++◌, Some, None, slice_get, nat_eq, set}
use Rattle.{rete_net.proofs.Common.{Vec, list_any, items_of}, std.proofs.lemmas.Bool.{or_right}, fx_base.proofs.Tests.{or_weaker}}

any_left : {A : Type 0} (p : A → Bool) (xs ys : List A) → list_any p xs ≡ true → list_any p (xs ++ ys) ≡ true
any_left p [] ys h = absurd (let no : false ≡ true = h in cc)
any_left p (x ∷ xs) ys h = or_weaker (p x) (list_any p xs) (list_any p (xs ++ ys)) (any_left p xs ys) h

any_last : (xs : List ℕ) (x : ℕ) → list_any (nat_eq x) (xs ++ x ∷ []) ≡ true
any_last [] x = same x
  where
    same : (n : ℕ) → (nat_eq n n || false) ≡ true
    same n = grind arith
any_last (y ∷ xs) x = or_right (nat_eq x y) (list_any (nat_eq x) (xs ++ x ∷ [])) (any_last xs x)

abbrev Has : List (Vec ℕ) → ℕ → ℕ → Type 0
Has lists n k = list_any (nat_eq k) (items_of (slice_get lists n)) ≡ true

pub put_kept : (lists : List (Vec ℕ)) (i : ℕ) (was now : Vec ℕ) (place n k : ℕ) → slice_get lists i ≡ Some was → now.items ≡ was.items ++ place ∷ [] → Has lists n k → Has (set lists i now) n k
put_kept [] i was now place n k at is h = absurd (let no : false ≡ true = h in cc)
put_kept (l ∷ lists) zero was now place zero k at is h =
    let same : l ≡ was = cc in
    ap (list_any (nat_eq k)) is ∙ any_left (nat_eq k) was.items (place ∷ []) (ap (λ (v : Vec ℕ). list_any (nat_eq k) v.items) (sym same) ∙ h)
put_kept (l ∷ lists) zero was now place (suc n) k at is h = h
put_kept (l ∷ lists) (suc i) was now place zero k at is h = h
put_kept (l ∷ lists) (suc i) was now place (suc n) k at is h = put_kept lists i was now place n k at is h

pub put_here : (lists : List (Vec ℕ)) (i : ℕ) (was now : Vec ℕ) (place : ℕ) → slice_get lists i ≡ Some was → now.items ≡ was.items ++ place ∷ [] → Has (set lists i now) i place
put_here [] i was now place at is = absurd (let no : None ≡ Some was = at in cc)
put_here (l ∷ lists) zero was now place at is = ap (list_any (nat_eq place)) is ∙ any_last was.items place
put_here (l ∷ lists) (suc i) was now place at is = put_here lists i was now place at is
