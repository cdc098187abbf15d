-- The pairs of entries that are due, and those of two maps whose keys are apart.
use Rattle.due_queue.proofs.Common.{◌≡◌, ◌∙◌, sym, ap, refl, List, [], ◌∷◌, Bool, true, false, cond, not, ◌&&◌, ◌||◌, Option, Some, None, filter, take_while}
use Rattle.due_queue.proofs.Common.{Ordering, Less, is_eq, IsTotalOrder, AllByRecursion, found, pair_cmp, has_pair, is_moment, Bound, is_past_end}
use Rattle.due_queue.{proofs.Common.{ordering_then, is_eq-then, is_eq-true, AreDue}, specs.{declared.rising.Entry.{Entry}, Moments.{AreDuePairs}}}
use Rattle.due_queue.{specs.Rising.{with_value, live, pairs_of, IsBehind, Rises, AreApart}, proofs.{Due.{AreDuePairs-front}, Entries.{flip, none_after}}}
use Rattle.{due_queue.proofs.{Entries.{rises_kept}, Orders.{less_then}, Together.{in_some, in_others, not_other}}, std.proofs.Common.{map as list_map}}
use Rattle.std.{proofs.lemmas.List.Sums.{take_while-cons}, specs.{Prelude.{◌++◌, is_some}, List.Sorted.{IsStrictlySortedBy}}}

-- whether an entry has a value
abbrev pub waits : {M K V : Type 0} → Entry M K V → Bool
waits entry = is_some entry.value

taken_mapped : {X Y : Type 0} (f : X → Y) (test : Y → Bool) (xs : List X) → list_map f (take_while (λ x. test (f x)) xs) ≡ take_while test (list_map f xs)
taken_mapped f test [] = refl
taken_mapped f test (x ∷ xs) =
    ap (list_map f) (take_while-cons (λ x. test (f x)) x xs)
    ∙ elim (test (f x)) as (λ b. list_map f (cond b (x ∷ take_while (λ x. test (f x)) xs) []) ≡ cond b (f x ∷ take_while test (list_map f xs)) []) [
      | true ↦ ap (λ ys. f x ∷ ys) (taken_mapped f test xs)
      | false ↦ refl
    ] ∙ sym (take_while-cons test (f x) (list_map f xs))

module _ {M K V : Type 0} {moments : M → M → Ordering} {keys : K → K → Ordering} (mt : IsTotalOrder moments) (kt : IsTotalOrder keys) where
  -- the pairs of those that wait are what is found
  pairs_found : (entries : List (Entry M K V)) → Rises moments keys entries → (t : M × K) → has_pair moments keys (pairs_of (filter waits entries)) t ≡ is_moment moments t.0 (found keys (live entries) t.1)
  unfolding Rises
  pairs_found [] rises t = refl
  pairs_found (w ∷ ws) rises t = by w.value (pairs_found ws rises.1 t)
    where
      moment_is : (a b : Bool) (v : V) (o : Option (M × V)) → a ≡ is_eq (moments w.at t.0) → (b ≡ true → o ≡ None) → ((a && b) || is_moment moments t.0 o) ≡ is_moment moments t.0 (cond b (Some (w.at, v)) o)
      moment_is true true v o e none = e
      moment_is false true v o e none = ap (is_moment moments t.0) (none refl) ∙ e
      moment_is true false v o e none = refl
      moment_is false false v o e none = refl

      by : (o : Option V) → has_pair moments keys (pairs_of (filter waits ws)) t ≡ is_moment moments t.0 (found keys (live ws) t.1)
          → has_pair moments keys (pairs_of (cond (is_some o) (w ∷ filter waits ws) (filter waits ws))) t ≡ is_moment moments t.0 (found keys (with_value w.key w.at o (live ws)) t.1)
      by None rest = rest
      by (Some v) rest =
          ap (λ b. b || has_pair moments keys (pairs_of (filter waits ws)) t) (is_eq-then (moments t.0 w.at) (keys t.1 w.key))
          ∙ ap (λ r. (is_eq (moments t.0 w.at) && is_eq (keys t.1 w.key)) || r) rest
          ∙ moment_is (is_eq (moments t.0 w.at)) (is_eq (keys t.1 w.key)) v (found keys (live ws) t.1) (flip mt t.0 w.at)
          (λ e. none_after mt kt w t.1 (is_eq-true (keys w.key t.1) (flip kt w.key t.1 ∙ e)) ws rises.0)

  less_pairs : (w : Entry M K V) (ws : List (Entry M K V)) → AllByRecursion (λ (after : Entry M K V). IsBehind moments keys after.at after.key w) ws → AllByRecursion (λ p. pair_cmp moments keys (w.at, w.key) p ≡ Less) (pairs_of ws)
  less_pairs w [] all = tt
  less_pairs w (v ∷ vs) all = (ap (ordering_then (moments w.at v.at)) all.0.0 ∙ less_then (moments w.at v.at) all.0.1, less_pairs w vs all.1)

  pairs_in_order : (entries : List (Entry M K V)) → Rises moments keys entries → IsStrictlySortedBy (pair_cmp moments keys) (pairs_of entries)
  unfolding Rises IsStrictlySortedBy
  pairs_in_order [] rises = tt
  pairs_in_order (w ∷ ws) rises = (less_pairs w ws rises.0, pairs_in_order ws rises.1)

  -- the pairs of entries that are due
  pub entries_due : (bound : Bound M) (entries : List (Entry M K V)) → Rises moments keys entries → (pairs : List (M × K))
      → pairs ≡ pairs_of (take_while (λ (entry : Entry M K V). not (is_past_end moments bound entry.at)) (filter waits entries)) → AreDuePairs moments keys bound (live entries) pairs
  entries_due bound entries rises pairs is =
      AreDuePairs-front moments keys mt bound kt (pairs_of (filter waits entries)) (live entries) (pairs_found entries rises)
      (pairs_in_order (filter waits entries) (rises_kept moments keys waits entries rises)) pairs
      (is ∙ taken_mapped (λ (entry : Entry M K V). (entry.at, entry.key)) (λ (t : M × K). not (is_past_end moments bound t.0)) (filter waits entries))

  -- the pairs of both maps that are due
  pub both_due : (bound : Bound M) (some others : List (K × (M × V))) (of_some of_others pairs : List (M × K)) → AreApart keys some others → AreDuePairs moments keys bound some of_some → AreDuePairs moments keys bound others of_others
      → IsStrictlySortedBy (pair_cmp moments keys) pairs → ((t : M × K) → has_pair moments keys pairs t ≡ (has_pair moments keys of_some t || has_pair moments keys of_others t))
      → (those : List K) → those ≡ list_map (λ t. t.1) pairs → AreDue moments keys bound (some ++ others) those
  both_due bound some others of_some of_others pairs apart in_first in_second sorted both those is = record {
    pairs = pairs;
    are = is;
    due = λ t. both t ∙ ap (λ b. b || has_pair moments keys of_others t) (in_first.due t) ∙ ap (λ b. (is_moment moments t.0 (found keys some t.1) && not (is_past_end moments bound t.0)) || b) (in_second.due t) ∙ one_of_both t;
    in_order = sorted;
  }
    where
      no_other : (a b : Bool) → ((a && b) || (false && b)) ≡ (a && b)
      no_other true true = refl
      no_other true false = refl
      no_other false b = refl

      one_of_both : (t : M × K) → ((is_moment moments t.0 (found keys some t.1) && not (is_past_end moments bound t.0)) || (is_moment moments t.0 (found keys others t.1) && not (is_past_end moments bound t.0)))
          ≡ (is_moment moments t.0 (found keys (some ++ others) t.1) && not (is_past_end moments bound t.0))
      one_of_both t = by (found keys some t.1) refl
        where
          by : (o : Option (M × V)) → found keys some t.1 ≡ o → ((is_moment moments t.0 (found keys some t.1) && not (is_past_end moments bound t.0)) || (is_moment moments t.0 (found keys others t.1) && not (is_past_end moments bound t.0)))
              ≡ (is_moment moments t.0 (found keys (some ++ others) t.1) && not (is_past_end moments bound t.0))
          by None e =
              ap (λ o. (is_moment moments t.0 o && not (is_past_end moments bound t.0)) || (is_moment moments t.0 (found keys others t.1) && not (is_past_end moments bound t.0))) e
              ∙ ap (λ o. is_moment moments t.0 o && not (is_past_end moments bound t.0)) (sym (in_others keys some others t.1 e))
          by (Some one) e =
              ap (λ o. (is_moment moments t.0 (found keys some t.1) && not (is_past_end moments bound t.0)) || (is_moment moments t.0 o && not (is_past_end moments bound t.0))) (not_other keys some others t.1 one apart e)
              ∙ no_other (is_moment moments t.0 (found keys some t.1)) (not (is_past_end moments bound t.0))
              ∙ ap (λ o. is_moment moments t.0 o && not (is_past_end moments bound t.0)) (e ∙ sym (in_some keys some others t.1 one e))
