-- The rising order of a list keeps its numbers and forgets its order.
use Rattle.fold_fn.proofs.Common.{◌≡◌, ◌+◌, ◌<◌, ℤ, cond, List, [], ◌∷◌, refl, sym, ap, ◌∙◌, ⊎_elim, arith, int_eq, ints, cases_Bool, insert_rising}
use Rattle.{fold_fn.{proofs.Common.{in_rising_order, HaveSame, int_eq-self, int_eq-true}, specs.Order.{times}}, std.proofs.lemmas.List.Sums.{sum_by-cons}}

pub times-cons : (v x : ℤ) (xs : List ℤ) → times v (x ∷ xs) ≡ cond (int_eq v x) 1 0 + times v xs
unfolding times
times-cons v x xs = sum_by-cons (λ y. cond (int_eq v y) 1 0) x xs

pub times-nil : (v : ℤ) → times v [] ≡ 0
unfolding times
times-nil v = refl

-- two numbers go in in either order
pub insert-insert : (v w : ℤ) (xs : List ℤ) → insert_rising v (insert_rising w xs) ≡ insert_rising w (insert_rising v xs)
insert-insert v w [] = grind (arith, ints)
insert-insert v w (x ∷ xs) = grind (arith, ints, insert-insert v w xs)

pub times-insert : (w v : ℤ) (xs : List ℤ) → times w (insert_rising v xs) ≡ times w (v ∷ xs)
times-insert w v [] = refl
times-insert w v (x ∷ xs) = grind (arith, times-cons, times-insert w v xs)

pub times-rising : (w : ℤ) (xs : List ℤ) → times w (in_rising_order xs) ≡ times w xs
times-rising w [] = refl
times-rising w (x ∷ xs) = grind (arith, times-cons, times-insert, times-rising w xs)

-- a list without the first v
pub without : ℤ → List ℤ → List ℤ
without v [] = []
without v (x ∷ xs) = cond (int_eq v x) xs (x ∷ without v xs)

pub times-without : (w v : ℤ) (xs : List ℤ) → 0 < times v xs → times w xs ≡ cond (int_eq w v) 1 0 + times w (without v xs)
unfolding without
times-without w v [] h = absurd (omega (arith, times-nil v))
times-without w v (x ∷ xs) h =
    ⊎_elim
    (λ e. rw (int_eq-true v x e) (grind (arith, times-cons, int_eq-self)))
    (λ e. grind (arith, times-cons, times-without w v xs))
    (cases_Bool (int_eq v x))

pub rising-without : (v : ℤ) (xs : List ℤ) → 0 < times v xs → in_rising_order xs ≡ insert_rising v (in_rising_order (without v xs))
unfolding without
rising-without v [] h = absurd (omega (arith, times-nil v))
rising-without v (x ∷ xs) h =
    ⊎_elim
    (λ e. rw (int_eq-true v x e) (grind (arith, int_eq-self)))
    (λ e. grind (arith, times-cons, insert-insert, rising-without v xs))
    (cases_Bool (int_eq v x))

-- a list that has no number is empty
pub none_from_times : (xs : List ℤ) → ((v : ℤ) → times v xs ≡ 0) → xs ≡ []
none_from_times [] h = refl
none_from_times (x ∷ xs) h = absurd (let e = h x in grind (arith, times-cons, int_eq-self))

pub rising_same : (xs ys : List ℤ) → HaveSame xs ys → in_rising_order xs ≡ in_rising_order ys
rising_same [] ys h = ap in_rising_order (sym (none_from_times ys (λ v. sym (h v) ∙ times-nil v)))
rising_same (x ∷ xs) ys h =
    let p : 0 < times x ys = (let e = h x in grind (arith, times-cons, int_eq-self)) in
    rw (rising-without x ys p)
    (ap (insert_rising x) (rising_same xs (without x ys) (λ v. let e = h v in let f = times-without v x ys p in grind (arith, times-cons))))
