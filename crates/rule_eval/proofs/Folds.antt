-- A fold that takes its values one after the other.
use Rattle.rule_eval.proofs.Common.{◌≡◌, ◌+◌, ℤ, cond, List, [], ◌∷◌, ◌++◌, sym, ◌∙◌, ap, arith, append-nil, HaveSame, insert_rising, times}
use Rattle.{std.specs.Ordering.{int_eq}, fold_fn.proofs.Rising.{times-cons, times-insert}}

times_append : (v x : ℤ) (xs ys : List ℤ) → times v (xs ++ x ∷ ys) ≡ cond (int_eq v x) 1 0 + times v (xs ++ ys)
times_append v x [] ys = times-cons v x ys
times_append v x (y ∷ xs) ys = grind (arith, times-cons, times_append v x xs ys)

times_front : (v : ℤ) (xs zs ys : List ℤ) → ((w : ℤ) → times w xs ≡ times w zs) → times v (xs ++ ys) ≡ times v (zs ++ ys)
times_front v xs zs [] h = ap (times v) (append-nil xs) ∙ h v ∙ sym (ap (times v) (append-nil zs))
times_front v xs zs (y ∷ ys) h = times_append v y xs ys ∙ ap (λ n. cond (int_eq v y) 1 0 + n) (times_front v xs zs ys h) ∙ sym (times_append v y zs ys)

-- one value is taken from those that are still to come
pub taken : (x : ℤ) (held rest all : List ℤ) → HaveSame (held ++ x ∷ rest) all → HaveSame (insert_rising x held ++ rest) all
taken x held rest all h v =
    times_front v (insert_rising x held) (x ∷ held) rest (λ w. times-insert w x held)
    ∙ times-cons v x (held ++ rest) ∙ sym (times_append v x held rest) ∙ h v
