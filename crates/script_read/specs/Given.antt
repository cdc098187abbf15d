-- What a line gives under the names of an object.
use Rattle.std.specs.Prelude.{ℕ, ℤ, List, [], ◌∷◌, Option, Some, None}
use Rattle.serde_json.specs.{Data.{Data, null, boolean, number, string, array, object, Members, no_members, member}, Find.{as_i64}}
use Rattle.script_read.specs.declared.given.Given.{Given, TheVariants.{Int, Bool as Flag, Text, Other}}

-- a number is given as a whole number where it is one of 64 bits with sign
abbrev pub whole_given : Option ℤ → Given
whole_given (Some n) = Int n
whole_given None = Other

unfoldable pub given_of : Data → Given
given_of null = Other
given_of (boolean b) = Flag b
given_of (number n) = whole_given (as_i64 n)
given_of (string s) = Text s
given_of (array ds) = Other
given_of (object ms) = Other

-- each name with what is given under it, in the byte order of the names
abbrev pub givens : Members → List (List ℕ × Given)
givens no_members = []
givens (member name d ms) = (name, given_of d) ∷ givens ms
