-- The pairs that are due stand in front of the pairs in order.
use Rattle.due_queue.proofs.Common.{◌≡◌, ◌∙◌, sym, ap, refl, List, [], ◌∷◌, filter, Bool, true, false, cond, not, ◌&&◌, Ordering, Less, is_eq, is_gt, eq_by_cmp}
use Rattle.due_queue.proofs.Common.{subst, found, has_pair, is_moment, eq_by_cmp_equiv, IsTotalOrder, AllByRecursion, Bound, is_past_end, pair_cmp, AreDue}
use Rattle.due_queue.proofs.{Common.{Agree, and_parts, take_while, is_eq-then, is_eq-true}, Agreeing.{paired}, Orders.{gt_first, pair_total, past_same}}
use Rattle.{due_queue.{proofs.Orders.{past_later}, specs.Moments.{AreDuePairs}}, std.proofs.Common.{map as list_map}}
use Rattle.std.{proofs.lemmas.List.{Kept.{IsStrictlySortedBy-filter}, Sums.{take_while-cons}}, specs.List.Sorted.{IsStrictlySortedBy}}
use Rattle.std.proofs.lemmas.Map.Made.{is_member-filter}

module _ {M K : Type 0} (moments : M → M → Ordering) (keys : K → K → Ordering) (mt : IsTotalOrder moments) (bound : Bound M) where
  -- whether a pair's moment is due
  abbrev due_at : M × K → Bool
  due_at t = not (is_past_end moments bound t.0)

  later : (x y : M × K) → pair_cmp moments keys x y ≡ Less → due_at x ≡ false → due_at y ≡ false
  later x y less waits = ap not (past_later mt bound x.0 y.0 (gt_first (moments x.0 y.0) (keys x.1 y.1) (ap is_gt less)) (is_past (is_past_end moments bound x.0) waits))
    where
      is_past : (b : Bool) → not b ≡ false → b ≡ true
      is_past true e = refl
      is_past false e = let f : true ≡ false = e in cc

  -- behind a pair that waits, none is due
  none_behind : (x : M × K) (xs : List (M × K)) → due_at x ≡ false → AllByRecursion (λ y. pair_cmp moments keys x y ≡ Less) xs → filter due_at xs ≡ []
  none_behind x [] waits less = refl
  none_behind x (y ∷ xs) waits less = ap (λ b. cond b (y ∷ filter due_at xs) (filter due_at xs)) (later x y less.0 waits) ∙ none_behind x xs waits less.1

  -- the front that is due is all that is due
  front : (xs : List (M × K)) → IsStrictlySortedBy (pair_cmp moments keys) xs → take_while due_at xs ≡ filter due_at xs
  unfolding IsStrictlySortedBy
  front [] sorted = refl
  front (x ∷ xs) sorted =
      take_while-cons due_at x xs
      ∙ elim (due_at x) as (λ b. due_at x ≡ b → cond b (x ∷ take_while due_at xs) [] ≡ cond b (x ∷ filter due_at xs) (filter due_at xs)) [
        | true ↦ λ e. ap (λ ys. x ∷ ys) (front xs sorted.1)
        | false ↦ λ e. sym (none_behind x xs e sorted.0)
      ] refl

  pub AreDuePairs-front : {V : Type 0} → IsTotalOrder keys → (pairs : List (M × K)) (waiting : List (K × (M × V))) → ((t : M × K) → has_pair moments keys pairs t ≡ is_moment moments t.0 (found keys waiting t.1))
      → IsStrictlySortedBy (pair_cmp moments keys) pairs → (those : List (M × K)) → those ≡ take_while due_at pairs → AreDuePairs moments keys bound waiting those
  AreDuePairs-front kt pairs waiting pair sorted those is = subst (AreDuePairs moments keys bound waiting) (sym (is ∙ front pairs sorted)) (record {
    due = λ t. is_member-filter (eq_by_cmp_equiv (pair_total mt kt)) due_at t (same_due t) pairs ∙ ap (λ b. b && due_at t) (pair t);
    in_order = IsStrictlySortedBy-filter (pair_cmp moments keys) due_at pairs sorted;
  })
    where
      same_due : (t x : M × K) → eq_by_cmp (pair_cmp moments keys) t x ≡ true → due_at t ≡ due_at x
      same_due t x e = ap not (past_same mt bound t.0 x.0 (is_eq-true (moments t.0 x.0) (and_parts (is_eq (moments t.0 x.0)) (is_eq (keys t.1 x.1)) (sym (is_eq-then (moments t.0 x.0) (keys t.1 x.1)) ∙ e)).0))

  pub AreDue-front : {V : Type 0} → IsTotalOrder keys → (pairs : List (M × K)) (inside waiting : List (K × (M × V))) → Agree moments keys pairs inside → inside ≡ waiting → IsStrictlySortedBy (pair_cmp moments keys) pairs
      → (those : List K) → those ≡ list_map (λ t. t.1) (take_while due_at pairs) → AreDue moments keys bound waiting those
  AreDue-front kt pairs inside waiting agree view sorted those is =
      let due = AreDuePairs-front kt pairs waiting (paired moments keys pairs inside waiting agree view) sorted (take_while due_at pairs) refl in
      record { pairs = take_while due_at pairs; are = is; due = due.due; in_order = due.in_order }
