-- What a bucket keeps under its keys.
use Rattle.std.specs.{Prelude.{List, [], ◌∷◌, Option}, declared.cmp.Ordering.{Ordering}, BTreeMap.{is_at}, Map.{lookup}}
use Rattle.alpha_memory.specs.declared.bucket.Bucket.{Bucket, TheVariants.{One, Many}}

-- the keys of a bucket in their order, each with what is kept beside it
abbrev pub entries : {K S : Type 0} → Bucket K S → List (K × S)
entries (One key kept) = (key, kept) ∷ []
entries (Many bucket) = bucket.entries

-- what is kept beside a key
abbrev pub found : {K S : Type 0} → (K → K → Ordering) → Bucket K S → K → Option S
found order bucket k = lookup (is_at (order k)) (entries bucket)
