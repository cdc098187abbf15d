-- What a join index keeps under a join value and a key.
use Rattle.std.specs.{Prelude.{◌≡◌, ◌↔◌, Bool, true, List, Option}, List.{list_any}, Option.{is_some, option_map, option_and_then}}
use Rattle.std.specs.{declared.cmp.Ordering.{Ordering}, BTreeMap.{is_at}, Ordering.{eq_by_cmp}, Map.{lookup}}
use Rattle.indexmap.specs.IndexMap.{get}
use Rattle.alpha_memory.specs.{Bucket.{entries}, declared.join_index.JoinIndex.{JoinIndex}}

-- the keys of a join value in their order, each with what is kept beside it
abbrev pub bucket_at : {J K S : Type 0} → (J → J → Bool) → JoinIndex J K S → J → Option (List (K × S))
bucket_at same index j = option_map entries (get same index.buckets j)

-- what is kept under a join value and a key
abbrev pub at : {J K S : Type 0} → (J → J → Bool) → (K → K → Ordering) → JoinIndex J K S → J → K → Option S
at same order index j k = option_and_then (lookup (is_at (order k))) (bucket_at same index j)

-- these are the keys, each under some join value
abbrev pub AreKeys : {J K S : Type 0} → (J → J → Bool) → (K → K → Ordering) → JoinIndex J K S → List K → Type 0
AreKeys {J} {K} same order index keys = (k : K) → (list_any (eq_by_cmp order k) keys ≡ true) ↔ ((j : J) × (is_some (at same order index j k) ≡ true))
