-- Facts behind references are counted as the references are.
use Rattle.{rule_eval.proofs.Common.{◌≡◌, Bool, true, false, cond, suc, List, [], ◌∷◌, length, refl, ap, filter, Fact, lent}, std.specs.Borrow.{Bor}}

one_counted : {A B : Type 0} (b : Bool) (x : A) (y : B) (xs : List A) (ys : List B) → length xs ≡ length ys → length (cond b (x ∷ xs) xs) ≡ length (cond b (y ∷ ys) ys)
one_counted true x y xs ys h = ap suc h
one_counted false x y xs ys h = h

pub count_lent : (test : Fact → Bool) (fs : List (Bor Fact)) → length (filter test (lent fs)) ≡ length (filter (λ (f : Bor Fact). test f.now) fs)
count_lent test [] = refl
count_lent test (f ∷ fs) = one_counted (test f.now) f.now f (filter test (lent fs)) (filter (λ (g : Bor Fact). test g.now) fs) (count_lent test fs)
