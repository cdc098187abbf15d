-- Keys that wait for moments and rise with them, in a list; what was taken out of the middle stays in it without a value.
use Rattle.std.specs.{Prelude.{◌≡◌, ℕ, zero, suc, Bool, true, false, List, [], ◌∷◌, map, Option, Some, None, is_some, ⊤}, declared.cmp.Ordering.{Ordering}}
use Rattle.std.specs.{declared.cmp.Ordering.TheVariants.{Less}, List.{AllByRecursion}, Ordering.{is_gt}}
use Rattle.due_queue.specs.{declared.rising.Entry.{Entry}, Moments.{found, is_moment, pair_cmp}}

-- a key with its moment before others, where it has a value
abbrev pub with_value : {M K V : Type 0} → K → M → Option V → List (K × (M × V)) → List (K × (M × V))
with_value key at None rest = rest
with_value key at (Some value) rest = (key, (at, value)) ∷ rest

-- the keys of a list that wait
abbrev pub live : {M K V : Type 0} → List (Entry M K V) → List (K × (M × V))
live [] = []
live (entry ∷ entries) = with_value entry.key entry.at entry.value (live entries)

-- a moment with a value, where there is one
abbrev pub one_of : {M V : Type 0} → M → Option V → Option (M × V)
one_of at None = None
one_of at (Some value) = Some (at, value)

-- what waits at a place
abbrev pub value_at : {M K V : Type 0} → List (Entry M K V) → ℕ → Option (M × V)
value_at [] place = None
value_at (entry ∷ entries) zero = one_of entry.at entry.value
value_at (entry ∷ entries) (suc place) = value_at entries place

-- the entry at a place has no value any more
abbrev pub emptied : {M K V : Type 0} → List (Entry M K V) → ℕ → List (Entry M K V)
emptied [] place = []
emptied (entry ∷ entries) zero = record { at = entry.at; key = entry.key; value = None } ∷ entries
emptied (entry ∷ entries) (suc place) = entry ∷ emptied entries place

-- the moments of entries with their keys
abbrev pub pairs_of : {M K V : Type 0} → List (Entry M K V) → List (M × K)
pairs_of entries = map (λ entry. (entry.at, entry.key)) entries

-- whether an entry is below a key, and its moment not above a moment
abbrev pub IsBehind : {M K V : Type 0} → (M → M → Ordering) → (K → K → Ordering) → M → K → Entry M K V → Type 0
IsBehind moments keys at key entry = (keys entry.key key ≡ Less) × (is_gt (moments entry.at at) ≡ false)

-- each key is below those after it, and its moment not above theirs
unfoldable pub Rises : {M K V : Type 0} → (M → M → Ordering) → (K → K → Ordering) → List (Entry M K V) → Type 0
Rises moments keys [] = ⊤
Rises moments keys (entry ∷ entries) = AllByRecursion (λ after. IsBehind moments keys after.at after.key entry) entries × Rises moments keys entries

-- whether the first entry, where there is one, has a value
abbrev pub is_front_live : {M K V : Type 0} → List (Entry M K V) → Bool
is_front_live [] = true
is_front_live (entry ∷ entries) = is_some entry.value

-- the list rises, and its first entry waits
pub record Stands {M K V : Type 0} (moments : M → M → Ordering) (keys : K → K → Ordering) (entries : List (Entry M K V)) : Type 0 where
  pub rises : Rises moments keys entries
  pub front : is_front_live entries ≡ true

-- no key waits in both
unfoldable pub AreApart : {M K V : Type 0} → (K → K → Ordering) → List (K × (M × V)) → List (K × (M × V)) → Type 0
AreApart {K = K} keys some others = (key : K) → is_some (found keys some key) ≡ true → found keys others key ≡ None

-- each key of the others has one of these that is not after it
abbrev pub Leads : {M K V : Type 0} → (M → M → Ordering) → (K → K → Ordering) → List (K × (M × V)) → List (K × (M × V)) → Type 0
Leads {M} {K} moments keys these others = (pair : M × K) → is_moment moments pair.0 (found keys others pair.1) ≡ true
    → (first : M × K) × (is_moment moments first.0 (found keys these first.1) ≡ true) × (is_gt (pair_cmp moments keys first pair) ≡ false)
