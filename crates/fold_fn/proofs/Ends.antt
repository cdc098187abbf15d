-- The numbers of the entries of a search tree: they rise already, and the first and the last key are the ends.
use Rattle.fold_fn.proofs.Common.{◌≡◌, ℕ, zero, suc, ◌<◌, ℤ, ◌≤ℤ◌, true, false, List, [], ◌∷◌, ◌++◌, replicate, Option, Some, None, refl, sym, ap, ◌∙◌, arith}
use Rattle.fold_fn.proofs.Common.{All, Contains, int_eq, int_cmp, int_lt, Less, is_lt, is_gt, ⊎_elim, insert_rising, in_rising_order, lookup, keys_of, ints}
use Rattle.fold_fn.proofs.Common.{cases_Bool, cond-false, lookup_head, lookup_tail, All-nil, All-head, All-tail, All-weaker, All-append, All-replicate}
use Rattle.fold_fn.proofs.Common.{Contains-append_left, Contains-append_right, least, greatest, repeated, NoneIsZero, AllByRecursion, sorted_head, sorted_tail}
use Rattle.fold_fn.proofs.{Common.{unwrap_or, int_eq-true}, Rising.{times-rising}, ResultLemmas.{least-rising, greatest-rising}, LawLemmas.{least_found}}
use Rattle.fold_fn.proofs.{LawLemmas.{greatest_found, times_from_contains, contains_timed}, Multisets.{times_in, count_at_from_contains}}
use Rattle.std.specs.{List.Sorted.{IsStrictlySortedBy}, Prelude.{◌↔◌, is_some}}

-- k goes in front of numbers whose entries have greater keys
goes_first : (k : ℤ) (es : List (ℤ × ℕ)) → AllByRecursion (λ y. int_cmp k y ≡ Less) (keys_of es) → insert_rising k (repeated es) ≡ k ∷ repeated es
goes_first k [] h = refl
goes_first k ((j, zero) ∷ es) h = goes_first k es h.1
goes_first k ((j, suc n) ∷ es) h =
    let low : int_lt j k ≡ false = (let f = h.0 in grind (arith, ints)) in
    cond-false _ _ _ low

insert_again : (k : ℤ) (n : ℕ) (xs : List ℤ) → insert_rising k xs ≡ k ∷ xs → insert_rising k (replicate n k ++ xs) ≡ k ∷ (replicate n k ++ xs)
insert_again k zero xs first = first
insert_again k (suc n) xs first = let low : int_lt k k ≡ false = grind (arith, ints) in cond-false _ _ _ low

again_first : (k : ℤ) (n : ℕ) (xs : List ℤ) → insert_rising k xs ≡ k ∷ xs → in_rising_order xs ≡ xs → in_rising_order (replicate n k ++ xs) ≡ replicate n k ++ xs
again_first k zero xs first rises = rises
again_first k (suc n) xs first rises = ap (insert_rising k) (again_first k n xs first rises) ∙ insert_again k n xs first

-- the numbers of entries whose keys rise are in rising order
pub rising-repeated : (es : List (ℤ × ℕ)) → IsStrictlySortedBy int_cmp (keys_of es) → in_rising_order (repeated es) ≡ repeated es
rising-repeated [] s = refl
rising-repeated (e ∷ es) s =
    again_first e.0 e.1 (repeated es) (goes_first e.0 es (sorted_head int_cmp e.0 (keys_of es) s)) (rising-repeated es (sorted_tail int_cmp e.0 (keys_of es) s))

-- what holds of each key holds of each number
pub All-repeated : (P : ℤ → Type 0) (es : List (ℤ × ℕ)) → All P (keys_of es) → All P (repeated es)
All-repeated P [] all = All-nil P
All-repeated P (e ∷ es) all =
    All-append P (replicate e.1 e.0) (repeated es)
    (All-replicate P e.1 e.0 (All-head P e.0 (keys_of es) all))
    (All-repeated P es (All-tail P e.0 (keys_of es) all))

contains_again : (k : ℤ) (n : ℕ) → 0 < n → Contains (replicate n k) k
contains_again k zero h = absurd (omega arith)
contains_again k (suc n) h = (0, omega arith, refl)

-- a key with an entry that is not zero is among the numbers
pub contains_key : (k : ℤ) (es : List (ℤ × ℕ)) (n : ℕ) → lookup (int_eq k) es ≡ Some n → 0 < n → Contains (repeated es) k
contains_key k [] n h some = absurd (cc)
contains_key k (e ∷ es) n h some =
    ⊎_elim
    (λ (here : int_eq k e.0 ≡ true).
    let count : e.1 ≡ n = (let found = lookup_head (int_eq k) e es here in cc) in
    rw (int_eq-true k e.0 here, count) (Contains-append_left (replicate n e.0) (repeated es) e.0 (contains_again e.0 n some)))
    (λ (away : int_eq k e.0 ≡ false).
    Contains-append_right (replicate e.1 e.0) (repeated es) k
    (contains_key k es n (sym (lookup_tail (int_eq k) e es away) ∙ h) some))
    (cases_Bool (int_eq k e.0))

-- the numbers are those that have an entry
pub has_entry : (es : List (ℤ × ℕ)) (v : ℤ) → NoneIsZero (times_in es) → (is_some (times_in es v) ≡ true) ↔ Contains (in_rising_order (repeated es)) v
has_entry es v positive = (λ some. of_entry (times_in es v) refl some, λ has. counted (times_in es v) (count_at_from_contains es v positive has))
  where
    of_entry : (o : Option ℕ) → times_in es v ≡ o → is_some o ≡ true → Contains (in_rising_order (repeated es)) v
    of_entry None e some = absurd (cc)
    of_entry (Some n) e some =
        let among = times_from_contains v (repeated es) (contains_key v es n e (rw e at (positive v))) in
        contains_timed v (in_rising_order (repeated es)) (omega (arith, among, times-rising v (repeated es)))

    counted : (o : Option ℕ) → 0 < unwrap_or o 0 → is_some o ≡ true
    counted None h = absurd (omega (arith, h))
    counted (Some n) h = refl

not_greater : (k q : ℤ) → is_gt (int_cmp k q) ≡ false → k ≤ℤ q
not_greater k q h = grind (arith, ints)

not_less : (k q : ℤ) → is_lt (int_cmp k q) ≡ false → q ≤ℤ k
not_less k q h = grind (arith, ints)

-- the least number is the first key, where each key is at least as great
pub least_key : (es : List (ℤ × ℕ)) (k : ℤ) (n : ℕ) → NoneIsZero (λ q. lookup (int_eq q) es) → lookup (int_eq k) es ≡ Some n → All (λ q. is_gt (int_cmp k q) ≡ false) (keys_of es)
    → least (in_rising_order (repeated es)) ≡ Some k
least_key es k n positive found all =
    least-rising (repeated es)
    ∙ least_found (repeated es) k
    (contains_key k es n found (rw found at (positive k)))
    (All-repeated (λ q. k ≤ℤ q) es (All-weaker (λ q. is_gt (int_cmp k q) ≡ false) (λ q. k ≤ℤ q) (λ q h. not_greater k q h) (keys_of es) all))

pub greatest_key : (es : List (ℤ × ℕ)) (k : ℤ) (n : ℕ) → NoneIsZero (λ q. lookup (int_eq q) es) → lookup (int_eq k) es ≡ Some n → All (λ q. is_lt (int_cmp k q) ≡ false) (keys_of es)
    → greatest (in_rising_order (repeated es)) ≡ Some k
greatest_key es k n positive found all =
    greatest-rising (repeated es)
    ∙ greatest_found (repeated es) k
    (contains_key k es n found (rw found at (positive k)))
    (All-repeated (λ q. q ≤ℤ k) es (All-weaker (λ q. is_lt (int_cmp k q) ≡ false) (λ q. q ≤ℤ k) (λ q h. not_less k q h) (keys_of es) all))
