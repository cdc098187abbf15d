-- What is known of types, by their places.
use Rattle.std.specs.Prelude.{◌≡◌, ℕ, ◌+◌, ◌&&◌, min, Bool, false, if◌then◌else◌, List, [], ◌∷◌, length, Option, Some, None, slice_get, option_and_then}
use Rattle.std.specs.List.{list_any}
use Rattle.drl_grammar.specs.declared.{file.TypeTree.{TypeTree}, written.WrittenType.{WrittenType}}
use Rattle.subrules.specs.{Expanded.{plain_type}, Faults.{number_of_fields}, Hierarchy.{above, goes_round, is_other, is_type_of_name}}

-- where there is an entry, there is a type, and the entry is right for it
abbrev pub AreKnown : {A : Type 0} → (WrittenType → A → Type 0) → List WrittenType → List (Option A) → Type 0
AreKnown {A} Is types known = (k : ℕ) (v : A) → slice_get known k ≡ Some (Some v) → (t : WrittenType) × (slice_get types k ≡ Some t) × Is t v

-- the type or one above it has this name
abbrev pub leads_to : List WrittenType → List ℕ → WrittenType → Bool
leads_to types over t = list_any (is_type_of_name over) (t ∷ above types t)

-- the name of a type, where it is another one and stands below the type of this name
abbrev pub subtype_of : List WrittenType → List ℕ → Option WrittenType → List (List ℕ)
subtype_of types name None = []
subtype_of types name (Some t) = if is_other name t.name && list_any (is_type_of_name name) (above types t) then t.name ∷ [] else []

abbrev pub subtype_at : List WrittenType → List ℕ → Option ℕ → List (List ℕ)
subtype_at types name place = subtype_of types name (option_and_then (λ k. slice_get types k) place)

abbrev pub IsLeading : List WrittenType → List ℕ → WrittenType → Bool → Type 0
IsLeading types over t is = is ≡ leads_to types over t

-- a type that does not go round has so many fields with those that it inherits, 33 for more
pub record IsCount (types : List WrittenType) (t : WrittenType) (count : ℕ) : Type 0 where
  pub ends : goes_round types t ≡ false
  pub counted : count ≡ min 33 (length t.fields + number_of_fields (above types t))

-- this is a type that does not go round, with all that it inherits
pub record IsHeir (types : List WrittenType) (t : WrittenType) (made : TypeTree) : Type 0 where
  pub ends : goes_round types t ≡ false
  pub whole : made ≡ plain_type types t
