-- How large a sum and an average can be, and what a value more or fewer does to a count and a sum.
use Rattle.fold_fn.proofs.Common.{◌≡◌, ℕ, ◌+◌, ◌-◌, ◌*◌, ◌/◌, ◌^◌, ◌<◌, ℤ, pos, negsuc, ◌+ℤ◌, ◌-ℤ◌, ◌≤ℤ◌, List, [], ◌∷◌, length, refl, ap, ◌∙◌, arith, w64}
use Rattle.fold_fn.proofs.Common.{FitsSigned, All, int_lt, eqb, Some, ints, cond_both, cond-false, ne_eqb, All-nil, All-cons, All-head, All-tail, insert_rising}
use Rattle.fold_fn.proofs.{Common.{total, floor_quotient, average, int_div_euclid, AreTotals}, ResultLemmas.{total-insert, length-insert}}
use Rattle.std.proofs.Math.Nat.{div-lt_iff_lt-mul}

pub total_high : (xs : List ℤ) → All (FitsSigned w64) xs → (total xs +ℤ pos (length xs)) ≤ℤ pos (2 ^ 63 * length xs)
total_high [] all = omega (arith, ints)
total_high (x ∷ xs) all =
    let first = All-head (FitsSigned w64) x xs all in
    let rest = total_high xs (All-tail (FitsSigned w64) x xs all) in
    omega (arith, ints)

pub total_low : (xs : List ℤ) → All (FitsSigned w64) xs → pos 0 ≤ℤ (total xs +ℤ pos (2 ^ 63 * length xs))
total_low [] all = omega (arith, ints)
total_low (x ∷ xs) all =
    let first = All-head (FitsSigned w64) x xs all in
    let rest = total_low xs (All-tail (FitsSigned w64) x xs all) in
    omega (arith, ints)

-- what holds of each number of a list with v put in holds of v and of each of the others
pub All-insert : (P : ℤ → Type 0) (v : ℤ) (xs : List ℤ) → P v → All P xs → All P (insert_rising v xs)
All-insert P v [] one all = All-cons P v [] one all
All-insert P v (x ∷ xs) one all =
    cond_both (int_lt x v) (x ∷ insert_rising v xs) (v ∷ (x ∷ xs)) (All P)
    (λ e. All-cons P x (insert_rising v xs) (All-head P x xs all) (All-insert P v xs one (All-tail P x xs all)))
    (λ e. All-cons P v (x ∷ xs) one all)

pub All-from_insert : (P : ℤ → Type 0) (v : ℤ) (xs : List ℤ) → All P (insert_rising v xs) → All P xs
All-from_insert P v [] all = All-nil P
All-from_insert P v (x ∷ xs) all =
    cond_both (int_lt x v) (x ∷ insert_rising v xs) (v ∷ (x ∷ xs)) (λ ys. All P ys → All P (x ∷ xs))
    (λ e h. All-cons P x xs (All-head P x (insert_rising v xs) h) (All-from_insert P v xs (All-tail P x (insert_rising v xs) h)))
    (λ e h. All-tail P v (x ∷ xs) h)
    all

pub sum_fits : (values : List ℤ) (count : ℕ) (sum : ℤ) → AreTotals values count sum → (sum ≤ℤ pos (2 ^ 126)) × (pos 0 ≤ℤ (sum +ℤ pos (2 ^ 126)))
sum_fits values count sum t =
    let high = total_high values t.fit in
    let low = total_low values t.fit in
    let is = t.summed in
    let len = t.counted in
    let few = t.few in
    (omega (arith, ints), omega (arith, ints))

pub totals_add : (old new : List ℤ) (count : ℕ) (sum s v : ℤ) → AreTotals old count sum → FitsSigned w64 v → length old < 2 ^ 63 - 1
    → new ≡ insert_rising v old → s ≡ sum +ℤ v → AreTotals new (count + 1) s
totals_add old new count sum s v t fits few e is =
    let len = length-insert v old in
    let all = total-insert v old in
    rw e (record {
      counted = omega (arith, t.counted);
      few = omega (arith, t.counted);
      summed = omega (arith, ints, t.summed);
      fit = All-insert (FitsSigned w64) v old fits t.fit;
    })

pub totals_take_back : (old new : List ℤ) (count : ℕ) (sum s v : ℤ) → AreTotals old count sum
    → old ≡ insert_rising v new → s ≡ sum -ℤ v → AreTotals new (count - 1) s
totals_take_back old new count sum s v t e is =
    let len = ap length e ∙ length-insert v new in
    let all = ap total e ∙ total-insert v new in
    record {
      counted = omega (arith, t.counted);
      few = omega (arith, t.few);
      summed = omega (arith, ints, t.summed);
      fit = All-from_insert (FitsSigned w64) v new (rw e at t.fit);
    }

-- the average of numbers of 64 bits fits 64 bits
pub average_fits : (values : List ℤ) → All (FitsSigned w64) values → 0 < length values → FitsSigned w64 (floor_quotient (total values) (length values))
average_fits values all some = at_quotient (total values) (length values) some (total_high values all) (total_low values all)
  where
    at_quotient : (sum : ℤ) (n : ℕ) → 0 < n → (sum +ℤ pos n) ≤ℤ pos (2 ^ 63 * n) → pos 0 ≤ℤ (sum +ℤ pos (2 ^ 63 * n)) → FitsSigned w64 (floor_quotient sum n)
    at_quotient (pos a) n some high low =
        let small : a / n < 2 ^ 63 = (div-lt_iff_lt-mul {k = n} {x = a} {y = 2 ^ 63} some).1 (omega (arith, ints)) in
        omega (arith, ints)
    at_quotient (negsuc a) n some high low =
        let small : a / n < 2 ^ 63 = (div-lt_iff_lt-mul {k = n} {x = a} {y = 2 ^ 63} some).1 (omega (arith, ints)) in
        omega (arith, ints)

pub average-some : (values : List ℤ) → 0 < length values → average values ≡ Some (floor_quotient (total values) (length values))
average-some values some = cond-false (eqb (length values) 0) _ _ (ne_eqb (length values) 0 (λ e. omega arith))

-- a division with a remainder that is not negative, by a number that is not, rounds down
pub int_div_euclid-floor : (a : ℤ) (n : ℕ) → int_div_euclid a (pos n) ≡ floor_quotient a n
int_div_euclid-floor (pos a) n = refl
int_div_euclid-floor (negsuc a) n = refl
