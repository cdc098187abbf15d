-- What one more of a number, or one fewer, in the entries of a map does to the numbers that they stand for.
use Rattle.fold_fn.proofs.Common.{◌≡◌, ℕ, zero, suc, ◌+◌, ◌<◌, ◌≤◌, ℤ, true, false, cond, List, [], ◌∷◌, ◌++◌, length, replicate, length-append, Option, None}
use Rattle.fold_fn.proofs.Common.{Some, refl, sym, ◌∙◌, arith, Contains, int_eq, ⊎_elim, lookup, keys_of, count_at, cases_Bool, lookup_head, lookup_tail}
use Rattle.fold_fn.proofs.Common.{none_past_head, times, insert_rising, in_rising_order, repeated, NoneIsZero, HasOneMore, IsDistinct, IsDistinct-tail}
use Rattle.fold_fn.proofs.{Common.{unwrap_or, IfSome, int_eq-self, int_eq-true}, Rising.{times-cons, times-nil, times-rising, rising_same}}
use Rattle.{fold_fn.proofs.{LawLemmas.{times_from_contains}, ResultLemmas.{length-rising}}, std.specs.Cmp.{int_eq_equiv}}
use Rattle.std.proofs.lemmas.{List.{length-replicate}, Map.{lookup-none}}

times-replicate : (w v : ℤ) (n : ℕ) (xs : List ℤ) → times w (replicate n v ++ xs) ≡ cond (int_eq w v) n 0 + times w xs
times-replicate w v zero xs = grind arith
times-replicate w v (suc n) xs = grind (arith, times-cons, times-replicate w v n xs)

-- how often the entries say that a number is there
abbrev pub times_in : List (ℤ × ℕ) → ℤ → Option ℕ
times_in es v = lookup (int_eq v) es

-- where no two keys are equal, the numbers are as many as the entries say
pub times-repeated : (w : ℤ) (es : List (ℤ × ℕ)) → IsDistinct int_eq (keys_of es) → times w (repeated es) ≡ count_at (times_in es) w
times-repeated w [] d = times-nil w
times-repeated w (e ∷ es) d =
    let deep = times-repeated w es (IsDistinct-tail int_eq e.0 (keys_of es) d) in
    let here = times-replicate w e.0 e.1 (repeated es) in
    ⊎_elim
    (λ (h : int_eq w e.0 ≡ true).
    let none = lookup-none (int_eq w) es (none_past_head int_eq_equiv w e es d h) in
    let found = lookup_head (int_eq w) e es h in
    grind arith)
    (λ (h : int_eq w e.0 ≡ false). let other = lookup_tail (int_eq w) e es h in grind arith)
    (cases_Bool (int_eq w e.0))

-- one more of v in the entries is one more of v among the numbers
pub one_more : (old new : List (ℤ × ℕ)) (v : ℤ) → IsDistinct int_eq (keys_of old) → IsDistinct int_eq (keys_of new) → HasOneMore (times_in old) (times_in new) v
    → in_rising_order (repeated new) ≡ insert_rising v (in_rising_order (repeated old))
one_more old new v old_keys new_keys counts = rising_same (repeated new) (v ∷ repeated old) (λ q.
    let m = times-repeated q new new_keys in
    let o = times-repeated q old old_keys in
    let c = counts q in
    let front = times-cons q v (repeated old) in
    ⊎_elim
    (λ (e : int_eq v q ≡ true). let same = int_eq-true v q e in let back = int_eq-self q in grind arith)
    (λ (e : int_eq v q ≡ false). let back = sym (int_eq_equiv.symm v q) ∙ e in grind arith)
    (cases_Bool (int_eq v q)))

-- a number is there at most as often as there are numbers
pub count_at-le : (es : List (ℤ × ℕ)) (v : ℤ) → count_at (times_in es) v ≤ length (in_rising_order (repeated es))
count_at-le es v = rw (length-rising (repeated es)) (in_all es)
  where
    in_all : (es : List (ℤ × ℕ)) → count_at (times_in es) v ≤ length (repeated es)
    in_all [] = omega arith
    in_all (e ∷ es) = let deep = in_all es in let n = length-append (replicate e.1 e.0) (repeated es) in let m = length-replicate e.1 e.0 in grind arith

-- a number without an entry is not there
absent : (v : ℤ) (es : List (ℤ × ℕ)) → lookup (int_eq v) es ≡ None → times v (repeated es) ≡ 0
absent v [] h = times-nil v
absent v (e ∷ es) h =
    let here = times-replicate v e.0 e.1 (repeated es) in
    ⊎_elim
    (λ (k : int_eq v e.0 ≡ true). let found = lookup_head (int_eq v) e es k in absurd (cc))
    (λ (k : int_eq v e.0 ≡ false). let deep = absent v es (sym (lookup_tail (int_eq v) e es k) ∙ h) in grind arith)
    (cases_Bool (int_eq v e.0))

some_positive : (o : Option ℕ) → IfSome o (λ n. 0 < n) → (o ≡ None → ⊥) → 0 < unwrap_or o 0
some_positive None h k = absurd (k refl)
some_positive (Some n) h k = h

-- a number that stands among the numbers has an entry, which is not zero
pub count_at_from_contains : (es : List (ℤ × ℕ)) (v : ℤ) → NoneIsZero (times_in es) → Contains (in_rising_order (repeated es)) v → 0 < count_at (times_in es) v
count_at_from_contains es v positive has =
    some_positive (lookup (int_eq v) es) (positive v)
    (λ k. omega (arith, times_from_contains v (in_rising_order (repeated es)) has, times-rising v (repeated es), absent v es k))
