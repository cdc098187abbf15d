-- Objects, and lines that each hold one.
use Rattle.std.specs.Prelude.{◌≡◌, ℕ, ℤ, List, [], ◌∷◌, ◌++◌, Some}
use Rattle.serde_json.specs.{Data.{Data, number, unsigned, object, Members, no_members, put}, Find.{of_integer}, Read.{read}, Written.{compact_text}}

-- numbers
abbrev pub whole : ℕ → Data
whole n = number (unsigned n)

abbrev pub signed : ℤ → Data
signed z = number (of_integer z)

-- members with these put among them: in the order of the bytes of their names, each name once
abbrev pub members_with : Members → List (List ℕ × Data) → Members
members_with members [] = members
members_with members (named ∷ more) = members_with (put named.0 named.1 members) more

abbrev pub object_of : List (List ℕ × Data) → Data
object_of members = object (members_with no_members members)

-- a value on a line of its own, without spaces
unfoldable pub json_line : Data → List ℕ
json_line value = compact_text value ++ 10 ∷ []

-- what is written is read as the value again
unfoldable pub ReadsBack : Data → Type 0
ReadsBack value = read (compact_text value) ≡ Some value
