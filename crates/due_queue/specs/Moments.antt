-- Keys that wait for moments, each for one, with a value beside it.
use Rattle.std.specs.{Prelude.{◌≡◌, Bool, false, not, ◌&&◌, List, map, Option, Some, None}, declared.{cmp.Ordering.{Ordering}, ops.Bound.{Bound}}}
use Rattle.std.specs.{Ordering.{ordering_then, eq_by_cmp}, BTreeMap.{is_at, Range.{is_past_end}}, List.{list_any, Sorted.{IsStrictlySortedBy}}, Map.{lookup}}

-- the moment for which a key waits, with its value
abbrev pub found : {M K V : Type 0} → (K → K → Ordering) → List (K × (M × V)) → K → Option (M × V)
found order waiting key = lookup (is_at (order key)) waiting

-- the order of moments with keys: by moment, then by key
abbrev pub pair_cmp : {M K : Type 0} → (M → M → Ordering) → (K → K → Ordering) → M × K → M × K → Ordering
pair_cmp moments keys a b = ordering_then (moments a.0 b.0) (keys a.1 b.1)

-- whether a moment with a key is among these
abbrev pub has_pair : {M K : Type 0} → (M → M → Ordering) → (K → K → Ordering) → List (M × K) → M × K → Bool
has_pair moments keys pairs pair = list_any (eq_by_cmp (pair_cmp moments keys) pair) pairs

-- whether there is a moment and it is this one
abbrev pub is_moment : {M V : Type 0} → (M → M → Ordering) → M → Option (M × V) → Bool
is_moment order at None = false
is_moment order at (Some one) = eq_by_cmp order one.0 at

-- whether there is a moment and the bound has it due
abbrev pub is_due : {M V : Type 0} → (M → M → Ordering) → Bound M → Option (M × V) → Bool
is_due order bound None = false
is_due order bound (Some one) = not (is_past_end order bound one.0)

-- these are the keys that are due with their moments, in the order of both
pub record AreDuePairs {M K V : Type 0} (moments : M → M → Ordering) (keys : K → K → Ordering) (bound : Bound M) (waiting : List (K × (M × V))) (pairs : List (M × K)) : Type 0 where
  pub due : (pair : M × K) → has_pair moments keys pairs pair ≡ (is_moment moments pair.0 (found keys waiting pair.1) && not (is_past_end moments bound pair.0))
  pub in_order : IsStrictlySortedBy (pair_cmp moments keys) pairs

-- these are the keys that are due, in the order of their moments, then of the keys: those of the pairs of a key that waits with its moment that is due
pub record AreDue {M K V : Type 0} (moments : M → M → Ordering) (keys : K → K → Ordering) (bound : Bound M) (waiting : List (K × (M × V))) (those : List K) : Type 0 where
  pub pairs : List (M × K)
  pub are : those ≡ map (λ pair. pair.1) pairs
  pub due : (pair : M × K) → has_pair moments keys pairs pair ≡ (is_moment moments pair.0 (found keys waiting pair.1) && not (is_past_end moments bound pair.0))
  pub in_order : IsStrictlySortedBy (pair_cmp moments keys) pairs

-- a moment and a key are a pair exactly where the key waits for that moment
unfoldable pub Agree : {M K V : Type 0} → (M → M → Ordering) → (K → K → Ordering) → List (M × K) → List (K × (M × V)) → Type 0
Agree {M} {K} moments keys pairs waiting = (at : M) (key : K) → has_pair moments keys pairs (at, key) ≡ is_moment moments at (found keys waiting key)
