-- Which types extend which. A name that is declared twice means its first declaration.
use Rattle.std.specs.Prelude.{◌≡◌, ℕ, zero, suc, cond, not, ◌&&◌, Bool, true, false, List, [], ◌∷◌, map, length, Option, Some, None, slice_get, option_and_then}
use Rattle.std.specs.{Prelude.{option_to_list}, List.{filter, flat_map, list_any}, Str.{bytes_eq}}
use Rattle.drl_scope.specs.{EntryPoints.{with_names}, Names.{place_of_name}}
use Rattle.drl_expr.specs.Words.{is_among}
use Rattle.drl_grammar.specs.declared.written.WrittenBody.{WrittenBody}
use Rattle.drl_grammar.specs.declared.written.WrittenBody.TheVariants as body
use Rattle.drl_grammar.specs.declared.written.{WrittenItem.{WrittenItem}, WrittenType.{WrittenType}}

abbrev pub written_type_in : WrittenBody → List WrittenType
written_type_in (body.Declare t) = t ∷ []
written_type_in (body.Package path) = []
written_type_in (body.Import path star) = []
written_type_in (body.Dialect text) = []
written_type_in (body.Entry name lateness) = []
written_type_in (body.Rule r) = []

-- the declared types, in the order of the file
abbrev pub written_types_of : List WrittenItem → List WrittenType
written_types_of items = flat_map (λ (item : WrittenItem). written_type_in item.body) items

abbrev pub written_type_names : List WrittenType → List (List ℕ)
written_type_names types = map (λ (t : WrittenType). t.name) types

-- their names, each once
abbrev pub first_names : List WrittenType → List (List ℕ)
first_names types = with_names [] (written_type_names types)

-- the type of a name
abbrev pub written_type_named : List WrittenType → List ℕ → Option WrittenType
written_type_named types name = option_and_then (λ k. slice_get types k) (place_of_name (written_type_names types) name)

abbrev pub is_type_of_name : List ℕ → WrittenType → Bool
is_type_of_name name t = bytes_eq t.name name

-- the type that a type extends
abbrev pub parent_of : List WrittenType → WrittenType → Option WrittenType
parent_of types t = option_and_then (written_type_named types) t.parent

-- the types above a type: its parent, and of each type above it the parent
pub data IsAbove (types : List WrittenType) : WrittenType → WrittenType → Type 0 where
  parent : {u t : WrittenType} → parent_of types t ≡ Some u → IsAbove types u t
  further : {u v t : WrittenType} → IsAbove types u t → parent_of types u ≡ Some v → IsAbove types v t

-- ---- The same as functions, by which types are written out. `laws` in the code says that both agree.

-- its parent, the parent of that, and so on upward: so many at most
unfoldable pub ancestors : List WrittenType → ℕ → Option WrittenType → List WrittenType
ancestors types n None = []
ancestors types zero (Some u) = []
ancestors types (suc n) (Some u) = u ∷ ancestors types n (parent_of types u)

-- All types above a type. Where parents do not go in a circle, it has at most as many as there are types.
abbrev pub above : List WrittenType → WrittenType → List WrittenType
above types t = ancestors types (length types) (parent_of types t)

-- whether there is still a type so many steps further upward
unfoldable pub goes_on : List WrittenType → ℕ → Option WrittenType → Bool
goes_on types n None = false
goes_on types zero (Some u) = true
goes_on types (suc n) (Some u) = goes_on types n (parent_of types u)

-- Whether the way upward from a type goes in a circle: it has more types than there are. So the type or one above it is above itself.
abbrev pub goes_round : List WrittenType → WrittenType → Bool
goes_round types t = goes_on types (length types) (parent_of types t)

-- whether the type of one name stands below that of another
abbrev pub is_below : List WrittenType → List ℕ → List ℕ → Bool
is_below types over name = list_any (is_type_of_name over) (ancestors types (length types) (option_and_then (parent_of types) (written_type_named types name)))

-- whether a name is another one
abbrev pub is_other : List ℕ → List ℕ → Bool
is_other name other = not (bytes_eq other name)

-- the name of the other type that the type of a name extends
abbrev pub extended_by : List WrittenType → List ℕ → List (List ℕ)
extended_by types name = filter (is_other name) (option_to_list (option_and_then (λ (t : WrittenType). t.parent) (written_type_named types name)))

-- the names that other types extend
abbrev pub extended : List WrittenType → List (List ℕ)
extended types = flat_map (extended_by types) (first_names types)

-- whether another type extends the type of this name
abbrev pub has_subtypes : List WrittenType → List ℕ → Bool
has_subtypes types name = is_among (extended types) name

-- whether the type of a second name is another one, and stands below the type of the first
abbrev pub is_subtype : List WrittenType → List ℕ → List ℕ → Bool
is_subtype types name other = is_other name other && is_below types name other

-- the name of a type, and, where others extend it, those of the other types below it in the order of the file
abbrev pub kinds_of : List WrittenType → List ℕ → List (List ℕ)
kinds_of types name = name ∷ cond (has_subtypes types name) (filter (is_subtype types name) (first_names types)) []
