-- The values of kept facts and those of forgotten ones are together the values of all, up to their order.
use Rattle.laden_rows.proofs.Common.{◌≡◌, ◌∙◌, ◌+◌, not, ℤ, Bool, true, false, List, [], ◌∷◌, ◌++◌, map, cond, refl, ap, arith, filter, HaveSame}
use Rattle.fold_fn.{specs.Order.{times, in_rising_order}, proofs.Rising.{times-cons, times-nil, times-rising}}

times_append : (v : ℤ) (xs ys : List ℤ) → times v (xs ++ ys) ≡ times v xs + times v ys
times_append v [] ys = let none : times v [] ≡ 0 = times-nil v in omega (arith, none)
times_append v (x ∷ xs) ys = grind (arith, times-cons, times_append v xs ys)

parted_step : (v x : ℤ) (b : Bool) (kept lost all : List ℤ) → times v kept + times v lost ≡ times v all
    → times v (cond (not b) (x ∷ kept) kept) + times v (cond b (x ∷ lost) lost) ≡ times v (x ∷ all)
parted_step v x true kept lost all e = grind (arith, times-cons, e)
parted_step v x false kept lost all e = grind (arith, times-cons, e)

map_if : {A : Type 0} (g : A → ℤ) (b : Bool) (x : A) (xs : List A) → map g (cond b (x ∷ xs) xs) ≡ cond b (g x ∷ map g xs) (map g xs)
map_if g true x xs = refl
map_if g false x xs = refl

parted_times : {A : Type 0} (g : A → ℤ) (lost : A → Bool) (v : ℤ) (xs : List A) → times v (map g (filter (λ x. not (lost x)) xs)) + times v (map g (filter lost xs)) ≡ times v (map g xs)
parted_times g lost v [] = let none : times v [] ≡ 0 = times-nil v in omega (arith, none)
parted_times g lost v (x ∷ xs) =
    ap (λ zs. times v zs + times v (map g (cond (lost x) (x ∷ filter lost xs) (filter lost xs)))) (map_if g (not (lost x)) x (filter (λ y. not (lost y)) xs))
    ∙ ap (λ zs. times v (cond (not (lost x)) (g x ∷ map g (filter (λ y. not (lost y)) xs)) (map g (filter (λ y. not (lost y)) xs))) + times v zs) (map_if g (lost x) x (filter lost xs))
    ∙ parted_step v (g x) (lost x) (map g (filter (λ y. not (lost y)) xs)) (map g (filter lost xs)) (map g xs) (parted_times g lost v xs)

-- whatever the order of the kept ones, and the forgotten ones rising
pub parted_values : {A : Type 0} (g : A → ℤ) (lost : A → Bool) (kept xs : List A) → HaveSame (map g kept) (map g (filter (λ x. not (lost x)) xs))
    → HaveSame (map g kept ++ in_rising_order (map g (filter lost xs))) (map g xs)
parted_values g lost kept xs same v =
    times_append v (map g kept) (in_rising_order (map g (filter lost xs)))
    ∙ ap (λ n. n + times v (in_rising_order (map g (filter lost xs)))) (same v)
    ∙ ap (λ n. times v (map g (filter (λ x. not (lost x)) xs)) + n) (times-rising v (map g (filter lost xs)))
    ∙ parted_times g lost v xs
