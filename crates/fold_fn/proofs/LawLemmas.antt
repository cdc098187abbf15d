-- What a list contains, its least and greatest number, the floor of a quotient, and taking back.
use Rattle.fold_fn.proofs.Common.{◌≡◌, ℕ, zero, suc, ◌*◌, ◌<◌, ◌≤◌, ◌/◌, ℤ, pos, negsuc, ◌+ℤ◌, ◌*ℤ◌, ◌≤ℤ◌, ◌<ℤ◌, List, [], ◌∷◌, Some, refl, sym, ap, arith, All}
use Rattle.fold_fn.proofs.Common.{Contains, int_eq, int_lt, true, false, ⊎_elim, ints, cases_Bool, All-nil, All-cons, All-weaker, All-contains, times}
use Rattle.fold_fn.proofs.Common.{insert_rising, least_of, greatest_of, least, greatest, floor_quotient, int_min, int_max, int_eq-self, int_eq-true}
use Rattle.fold_fn.proofs.Rising.{times-cons, times-insert, times-nil}

-- a number goes in at one place only, so it leaves one list when it is taken out
pub insert-injective : (v : ℤ) (xs ys : List ℤ) → insert_rising v xs ≡ insert_rising v ys → ys ≡ xs
insert-injective v [] [] h = refl
insert-injective v [] (y ∷ ys) h = grind (arith, ints)
insert-injective v (x ∷ xs) [] h = grind (arith, ints)
insert-injective v (x ∷ xs) (y ∷ ys) h = grind (arith, ints, insert-injective v xs ys)

-- a list has a number more than no time exactly where it contains it
pub times_from_contains : (v : ℤ) (xs : List ℤ) → Contains xs v → 0 < times v xs
times_from_contains v [] h = absurd (omega (arith, h.1))
times_from_contains v (x ∷ xs) (zero, low, e) = let f : x ≡ v = e in rw f (grind (arith, times-cons, int_eq-self))
times_from_contains v (x ∷ xs) (suc k, low, e) = omega (arith, times-cons v x xs, times_from_contains v xs (k, omega arith, e))

pub contains_timed : (v : ℤ) (xs : List ℤ) → 0 < times v xs → Contains xs v
contains_timed v [] h = absurd (omega (arith, times-nil v))
contains_timed v (x ∷ xs) h =
    ⊎_elim
    (λ (e : int_eq v x ≡ true). (0, omega arith, sym (int_eq-true v x e)))
    (λ (e : int_eq v x ≡ false). let rest = contains_timed v xs (let more = times-cons v x xs in grind arith) in (suc rest.0, omega (arith, rest.1), rest.2))
    (cases_Bool (int_eq v x))

pub contains_inserted : (v : ℤ) (xs : List ℤ) → Contains (insert_rising v xs) v
contains_inserted v xs = contains_timed v (insert_rising v xs) (let more = times-cons v v xs in let one = int_eq-self v in grind (arith, times-insert))

contains_head : (x : ℤ) (xs : List ℤ) → Contains (x ∷ xs) x
contains_head x xs = (0, omega arith, refl)

contains_tail : (x y : ℤ) (xs : List ℤ) → Contains xs x → Contains (y ∷ xs) x
contains_tail x y xs h = (suc h.0, omega (arith, h.1), h.2)

least_step : (x y m : ℤ) (ys : List ℤ) → Contains ys m → All (λ z. m ≤ℤ z) ys → x ≡ int_min y m → Contains (y ∷ ys) x × All (λ z. x ≤ℤ z) (y ∷ ys)
least_step x y m ys has all e =
    ⊎_elim
    (λ (h : int_lt m y ≡ true). let f : x ≡ m = grind (arith, ints) in let low : m ≤ℤ y = grind (arith, ints) in
    rw f (contains_tail m y ys has, All-cons (λ z. m ≤ℤ z) y ys low all))
    (λ (h : int_lt m y ≡ false). let f : x ≡ y = grind (arith, ints) in let low : y ≤ℤ m = grind (arith, ints) in
    rw f (
      contains_head y ys,
      All-cons (λ z. y ≤ℤ z) y ys (omega (arith, ints))
          (All-weaker (λ z. m ≤ℤ z) (λ z. y ≤ℤ z) (λ z k. omega (arith, ints)) ys all),
    ))
    (cases_Bool (int_lt m y))

pub least_is_least : (xs : List ℤ) (x : ℤ) → least xs ≡ Some x → Contains xs x × All (λ y. x ≤ℤ y) xs
least_is_least [] x e = absurd (cc)
least_is_least (y ∷ []) x e =
    let f : x ≡ y = (cc) in
    rw f (contains_head y [], All-cons (λ z. y ≤ℤ z) y [] (omega (arith, ints)) (All-nil (λ z. y ≤ℤ z)))
least_is_least (y ∷ (z ∷ zs)) x e =
    let m = least_of z (least zs) in
    let deep : Contains (z ∷ zs) m × All (λ y. m ≤ℤ y) (z ∷ zs) = least_is_least (z ∷ zs) m refl in
    least_step x y m (z ∷ zs) deep.0 deep.1 (cc)

-- a number that stands in the list and has none below it is the least
pub least_found : (xs : List ℤ) (x : ℤ) → Contains xs x → All (λ y. x ≤ℤ y) xs → least xs ≡ Some x
least_found [] x has all = absurd (omega (arith, has.1))
least_found (y ∷ ys) x has all =
    let m = least_of y (least ys) in
    let of_m : Contains (y ∷ ys) m × All (λ z. m ≤ℤ z) (y ∷ ys) = least_is_least (y ∷ ys) m refl in
    let up : x ≤ℤ m = All-contains (λ z. x ≤ℤ z) (y ∷ ys) m all of_m.0 in
    let down : m ≤ℤ x = All-contains (λ z. m ≤ℤ z) (y ∷ ys) x of_m.1 has in
    let same : m ≡ x = omega (arith, ints) in
    ap Some same

pub floor_below : (sum : ℤ) (n : ℕ) → 0 < n → (floor_quotient sum n *ℤ pos n) ≤ℤ sum
floor_below (pos a) n h = omega (arith, ints)
floor_below (negsuc a) n h = omega (arith, ints)

below_zero : (a n q : ℕ) → q * n ≤ a → negsuc a <ℤ ((negsuc q +ℤ pos 1) *ℤ pos n)
below_zero a n zero h = omega (arith, ints)
below_zero a n (suc q) h =
    let f : negsuc (suc q) +ℤ pos 1 ≡ negsuc q = omega (arith, ints) in
    rw f (omega (arith, ints))

pub floor_above : (sum : ℤ) (n : ℕ) → 0 < n → sum <ℤ ((floor_quotient sum n +ℤ pos 1) *ℤ pos n)
floor_above (pos a) n h = omega (arith, ints)
floor_above (negsuc a) n h = below_zero a n (a / n) (omega arith)

greatest_step : (x y m : ℤ) (ys : List ℤ) → Contains ys m → All (λ z. z ≤ℤ m) ys → x ≡ int_max y m → Contains (y ∷ ys) x × All (λ z. z ≤ℤ x) (y ∷ ys)
greatest_step x y m ys has all e =
    ⊎_elim
    (λ (h : int_lt m y ≡ true). let f : x ≡ y = grind (arith, ints) in let high : m ≤ℤ y = grind (arith, ints) in
    rw f (
      contains_head y ys,
      All-cons (λ z. z ≤ℤ y) y ys (omega (arith, ints))
          (All-weaker (λ z. z ≤ℤ m) (λ z. z ≤ℤ y) (λ z k. omega (arith, ints)) ys all),
    ))
    (λ (h : int_lt m y ≡ false). let f : x ≡ m = grind (arith, ints) in let high : y ≤ℤ m = grind (arith, ints) in
    rw f (contains_tail m y ys has, All-cons (λ z. z ≤ℤ m) y ys high all))
    (cases_Bool (int_lt m y))

pub greatest_is_greatest : (xs : List ℤ) (x : ℤ) → greatest xs ≡ Some x → Contains xs x × All (λ y. y ≤ℤ x) xs
greatest_is_greatest [] x e = absurd (cc)
greatest_is_greatest (y ∷ []) x e =
    let f : x ≡ y = (cc) in
    rw f (contains_head y [], All-cons (λ z. z ≤ℤ y) y [] (omega (arith, ints)) (All-nil (λ z. z ≤ℤ y)))
greatest_is_greatest (y ∷ (z ∷ zs)) x e =
    let m = greatest_of z (greatest zs) in
    let deep : Contains (z ∷ zs) m × All (λ y. y ≤ℤ m) (z ∷ zs) = greatest_is_greatest (z ∷ zs) m refl in
    greatest_step x y m (z ∷ zs) deep.0 deep.1 (cc)

pub greatest_found : (xs : List ℤ) (x : ℤ) → Contains xs x → All (λ y. y ≤ℤ x) xs → greatest xs ≡ Some x
greatest_found [] x has all = absurd (omega (arith, has.1))
greatest_found (y ∷ ys) x has all =
    let m = greatest_of y (greatest ys) in
    let of_m : Contains (y ∷ ys) m × All (λ z. z ≤ℤ m) (y ∷ ys) = greatest_is_greatest (y ∷ ys) m refl in
    let down : m ≤ℤ x = All-contains (λ z. z ≤ℤ x) (y ∷ ys) m all of_m.0 in
    let up : x ≤ℤ m = All-contains (λ z. z ≤ℤ m) (y ∷ ys) x of_m.1 has in
    let same : m ≡ x = omega (arith, ints) in
    ap Some same
