-- Moments and keys that are whole numbers.
use Rattle.due_queue.proofs.Common.{◌≡◌, ◌∙◌, sym, refl, ℕ, ℤ, List, [], ◌∷◌, Bool, true, false, not, ◌||◌, arith, ints, list_any, Ordering, nat_cmp, int_cmp}
use Rattle.due_queue.proofs.Common.{eq_by_cmp, ordering_then, is_eq, is_gt, Included, Excluded, is_past_end, pair_cmp, has_pair, and_parts, unsigned_tied, ◌≤ℤ◌}
use Rattle.{due_queue.proofs.Common.{int_le, int_lt, nat_eq, is_eq-then}, std.proofs.Common.{map as list_map}}

-- up to a moment what has come is due
pub come : (now at : ℤ) → not (is_past_end int_cmp (Included now) at) ≡ int_le at now
come now at = grind (arith, ints)

-- before a moment what is below it is due
pub below : (bound at : ℤ) → not (is_past_end int_cmp (Excluded bound) at) ≡ int_lt at bound
below bound at = grind (arith, ints)

-- what is not after another has no later moment
pub not_later : (x y : ℤ) (keys : Ordering) → is_gt (ordering_then (int_cmp x y) keys) ≡ false → x ≤ℤ y
not_later x y keys e = grind (arith, ints)

-- the key of a pair is among the keys
pub has_key : (pairs : List (ℤ × ℕ)) (at : ℤ) (key : ℕ) → has_pair int_cmp nat_cmp pairs (at, key) ≡ true → list_any (nat_eq key) (list_map (λ t. t.1) pairs) ≡ true
has_key [] at key e = let f : false ≡ true = e in absurd (cc)
has_key (x ∷ pairs) at key e =
    by (eq_by_cmp (pair_cmp int_cmp nat_cmp) (at, key) x) (nat_eq key x.1)
    (λ same. sym (unsigned_tied key x.1) ∙ (and_parts (is_eq (int_cmp at x.0)) (is_eq (nat_cmp key x.1)) (sym (is_eq-then (int_cmp at x.0) (nat_cmp key x.1)) ∙ same)).1) (has_key pairs at key) e
  where
    by : (same mine : Bool) → (same ≡ true → mine ≡ true) → (has_pair int_cmp nat_cmp pairs (at, key) ≡ true → list_any (nat_eq key) (list_map (λ t. t.1) pairs) ≡ true) → (same || has_pair int_cmp nat_cmp pairs (at, key)) ≡ true → (mine || list_any (nat_eq key) (list_map (λ t. t.1) pairs)) ≡ true
    by same true is more e = refl
    by true false is more e = let f : false ≡ true = is refl in cc
    by false false is more e = more e
