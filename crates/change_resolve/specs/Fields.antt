-- The values that a change gives to fields.
use Rattle.std.specs.Prelude.{ℕ, ◌+◌, ◌&&◌, Bool, List, [], ◌∷◌, length, nat_le, nat_lt, Option, Some, None, is_some, option_map, if◌then◌else◌}
use Rattle.std.specs.{List.{list_any, list_all}, Option.{option_and_then}, Str.{bytes_eq}}
use Rattle.fx_base.specs.declared.{kind.Kind.{Kind}, value.Value.{Value}}
use Rattle.script_read.specs.declared.given.Given.{Given}
use Rattle.fx_base.specs.declared.kind.Kind.TheVariants as kind
use Rattle.fx_base.specs.declared.value.Value.TheVariants as value
use Rattle.script_read.specs.declared.given.Given.TheVariants as given

-- what is given under a name
unfoldable pub given_under : List ℕ → List (List ℕ × Given) → Option Given
given_under name [] = None
given_under name (member ∷ members) = if bytes_eq member.0 name then Some member.1 else given_under name members

abbrev pub is_field : List (List ℕ × Kind) → List ℕ → Bool
is_field fields name = list_any (λ (field : List ℕ × Kind). bytes_eq field.0 name) fields

abbrev pub are_given : List (List ℕ × Kind) → List (List ℕ × Given) → Bool
are_given fields members = list_all (λ (field : List ℕ × Kind). is_some (given_under field.0 members)) fields

abbrev pub are_declared : List (List ℕ × Kind) → List (List ℕ × Given) → Bool
are_declared fields members = list_all (λ (member : List ℕ × Given). is_field fields member.0) members

-- the members are exactly the declared fields
abbrev pub are_fields : List (List ℕ × Kind) → List (List ℕ × Given) → Bool
are_fields fields members = are_given fields members && are_declared fields members

abbrev pub text_value : List ℕ → Option Value
text_value bytes = if nat_le (length bytes) 4096 then Some (value.Text bytes) else None

-- there is a member, and each is a declared field
abbrev pub are_some_fields : List (List ℕ × Kind) → List (List ℕ × Given) → Bool
are_some_fields fields members = nat_lt 0 (length members) && are_declared fields members

-- a value of the field's kind; a text has at most 4,096 bytes
abbrev pub value_given : Kind → Given → Option Value
value_given kind.Int (given.Int n) = Some (value.Int n)
value_given kind.Bool (given.Bool b) = Some (value.Bool b)
value_given kind.Text (given.Text t) = text_value t
value_given _ _ = None

abbrev pub field_value : List ℕ × Kind → List (List ℕ × Given) → Option Value
field_value field members = option_and_then (value_given field.1) (given_under field.0 members)

-- the values of the fields, in the order of their declaration
unfoldable pub values_given : List (List ℕ × Kind) → List (List ℕ × Given) → Option (List Value)
values_given [] members = Some []
values_given (field ∷ fields) members =
    option_and_then (λ v. option_map (λ vs. v ∷ vs) (values_given fields members)) (field_value field members)

-- the place and the kind of the field of a name, the first field having this place
unfoldable pub field_named : List ℕ → List (List ℕ × Kind) → ℕ → Option (ℕ × Kind)
field_named name [] place = None
field_named name (field ∷ fields) place = if bytes_eq field.0 name then Some (place, field.1) else field_named name fields (place + 1)

abbrev pub set_for : Option (ℕ × Kind) → Given → Option (ℕ × Value)
set_for None given = None
set_for (Some field) given = option_map (λ v. (field.0, v)) (value_given field.1 given)

-- the values that members give to the fields of these places
unfoldable pub sets_given : List (List ℕ × Kind) → List (List ℕ × Given) → Option (List (ℕ × Value))
sets_given fields [] = Some []
sets_given fields (member ∷ members) =
    option_and_then (λ set. option_map (λ sets. set ∷ sets) (sets_given fields members)) (set_for (field_named member.0 fields 0) member.1)
