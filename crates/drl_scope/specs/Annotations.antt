-- What the annotations of a type say. Of annotations of one word the first counts.
use Rattle.std.specs.Prelude.{ℕ, ℤ, ◌||◌, Bool, true, false, List, [], ◌∷◌, Option, Some, None}
use Rattle.drl_grammar.specs.declared.file.Meta.{Meta}
use Rattle.drl_grammar.specs.declared.file.Meta.TheVariants as meta
use Rattle.drl_grammar.specs.declared.file.TypeTree.{TypeTree}

abbrev pub role_with : Meta → Bool → Bool
role_with (meta.Role event) others = event
role_with (meta.Timestamp field) others = others
role_with (meta.Duration field) others = others
role_with (meta.Expires offset) others = others
role_with meta.Reference others = others

-- whether the role is that of events; without one it is that of facts
abbrev pub role_of : List Meta → Bool
role_of [] = false
role_of (m ∷ metas) = role_with m (role_of metas)

abbrev pub is_tree_of_events : TypeTree → Bool
is_tree_of_events t = role_of t.metas

abbrev pub timestamp_with : Meta → Option (List ℕ) → Option (List ℕ)
timestamp_with (meta.Timestamp field) others = Some field
timestamp_with (meta.Role event) others = others
timestamp_with (meta.Duration field) others = others
timestamp_with (meta.Expires offset) others = others
timestamp_with meta.Reference others = others

-- the field that holds the start
abbrev pub timestamp_of : List Meta → Option (List ℕ)
timestamp_of [] = None
timestamp_of (m ∷ metas) = timestamp_with m (timestamp_of metas)

abbrev pub duration_with : Meta → Option (List ℕ) → Option (List ℕ)
duration_with (meta.Duration field) others = Some field
duration_with (meta.Role event) others = others
duration_with (meta.Timestamp field) others = others
duration_with (meta.Expires offset) others = others
duration_with meta.Reference others = others

-- the field that holds the duration
abbrev pub duration_field_of : List Meta → Option (List ℕ)
duration_field_of [] = None
duration_field_of (m ∷ metas) = duration_with m (duration_field_of metas)

abbrev pub expiry_with : Meta → Option ℤ → Option ℤ
expiry_with (meta.Expires offset) others = Some offset
expiry_with (meta.Role event) others = others
expiry_with (meta.Timestamp field) others = others
expiry_with (meta.Duration field) others = others
expiry_with meta.Reference others = others

-- how long behind its start an event is present, in milliseconds
abbrev pub declared_expiry : List Meta → Option ℤ
declared_expiry [] = None
declared_expiry (m ∷ metas) = expiry_with m (declared_expiry metas)

abbrev pub is_reference_meta : Meta → Bool
is_reference_meta meta.Reference = true
is_reference_meta (meta.Role event) = false
is_reference_meta (meta.Timestamp field) = false
is_reference_meta (meta.Duration field) = false
is_reference_meta (meta.Expires offset) = false

-- whether it is a reference type: its facts are there before any event, and stay as they are
abbrev pub reference_of : List Meta → Bool
reference_of [] = false
reference_of (m ∷ metas) = is_reference_meta m || reference_of metas
