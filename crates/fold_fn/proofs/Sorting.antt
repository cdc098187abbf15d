-- The rising order rises, and a list that rises is in it.
use Rattle.fold_fn.proofs.Common.{◌≡◌, zero, suc, ◌<◌, ℤ, false, List, [], ◌∷◌, length, get_or, refl, sym, ◌∙◌, arith, int_lt, IsSorted, int_cmp, is_lt}
use Rattle.fold_fn.proofs.Common.{add-one, ints, cond_both, cond-false, insert_rising, in_rising_order, int_lt-flip}

is_lt-int_cmp : (a b : ℤ) → is_lt (int_cmp a b) ≡ int_lt a b
is_lt-int_cmp a b = grind (arith, ints)

sorted_tail : (x : ℤ) (xs : List ℤ) → IsSorted int_cmp (x ∷ xs) → IsSorted int_cmp xs
sorted_tail x xs s = λ k d low high. simp add-one (simp add-one at (s (suc k) d (omega arith) (omega arith)))

sorted_cons : (x : ℤ) (xs : List ℤ) → ((d : ℤ) → 0 < length xs → int_lt (get_or xs 0 d) x ≡ false) → IsSorted int_cmp xs → IsSorted int_cmp (x ∷ xs)
sorted_cons x xs first s zero d low high = is_lt-int_cmp (get_or xs 0 d) x ∙ first d (omega arith)
sorted_cons x xs first s (suc k) d low high = simp add-one (simp add-one at (s k d (omega arith) (omega arith)))

head-insert : (v x : ℤ) (xs : List ℤ) → int_lt v x ≡ false → ((d : ℤ) → 0 < length xs → int_lt (get_or xs 0 d) x ≡ false) → (d : ℤ) → int_lt (get_or (insert_rising v xs) 0 d) x ≡ false
head-insert v x [] h first d = h
head-insert v x (y ∷ ys) h first d = let f = first d in grind arith

sorted-insert : (v : ℤ) (xs : List ℤ) → IsSorted int_cmp xs → IsSorted int_cmp (insert_rising v xs)
sorted-insert v [] s = λ k d low high. absurd (omega arith)
sorted-insert v (x ∷ xs) s =
    cond_both (int_lt x v) (x ∷ insert_rising v xs) (v ∷ (x ∷ xs)) (IsSorted int_cmp)
    (λ e. sorted_cons x (insert_rising v xs)
    (λ d some. head-insert v x xs (int_lt-flip x v e) (λ d' some'. sym (is_lt-int_cmp (get_or xs 0 d') x) ∙ s 0 d' (omega arith) (omega arith)) d)
    (sorted-insert v xs (sorted_tail x xs s)))
    (λ e. sorted_cons v (x ∷ xs) (λ d some. e) s)

pub sorted-rising : (xs : List ℤ) → IsSorted int_cmp (in_rising_order xs)
sorted-rising [] = λ k d low high. absurd (omega arith)
sorted-rising (x ∷ xs) = sorted-insert x (in_rising_order xs) (sorted-rising xs)

-- a list that rises is its own rising order
pub rising-sorted : (xs : List ℤ) → IsSorted int_cmp xs → in_rising_order xs ≡ xs
rising-sorted [] s = refl
rising-sorted (x ∷ []) s = refl
rising-sorted (x ∷ (y ∷ ys)) s =
    let first : int_lt y x ≡ false = sym (is_lt-int_cmp y x) ∙ s 0 x (omega arith) (omega arith) in
    rw (rising-sorted (y ∷ ys) (sorted_tail x (y ∷ ys) s)) (cond-false _ _ _ first)
