-- What lines ask for that are objects without arrays, and whose members stand in the order in which the forms name them.
use Rattle.std.specs.{Prelude.{ℕ, List, [], ◌∷◌, Option, codes, option_map, option_and_then}, Ordering.{nat_cmp, match_ordering}, Cmp.Lexicographic.{slice_cmp}}
use Rattle.json.specs.Json as json
use Rattle.serde_json.specs.{Data.{no_members}, Read.{of_json, of_members}}
use Rattle.script_read.specs.{Given.{given_of, givens}, Form.{command_of}, declared.{asked.Command.{Command}, given.Given.{Given}}}

-- the command that a tree asks for
unfoldable pub tree_command : json.Json → Option Command
tree_command j = option_and_then command_of (of_json j)

-- the same of an object whose first member is this word, under `do`
unfoldable pub word_command : List ℕ → json.Members → Option Command
word_command word ms = tree_command (json.object (json.member (codes "do") (json.string word) ms))

-- what is given for a field by a tree
abbrev pub tree_given : json.Json → Option Given
tree_given j = option_map given_of (of_json j)

-- what the members of an object give for fields
abbrev pub tree_givens : json.Members → Option (List (List ℕ × Given))
tree_givens ms = option_map givens (of_members ms no_members)

-- the fields with what is given for one of them, in the byte order of the names
abbrev pub put_given : List ℕ → Given → List (List ℕ × Given) → List (List ℕ × Given)
put_given name g [] = (name, g) ∷ []
put_given name g (f ∷ fs) = match_ordering (slice_cmp nat_cmp name f.0) ((name, g) ∷ f ∷ fs) ((f.0, g) ∷ fs) (f ∷ put_given name g fs)

-- two members
abbrev pub two : List ℕ → json.Json → List ℕ → json.Json → json.Members
two k i l j = json.member k i (json.member l j json.no_members)

-- three members
abbrev pub three : List ℕ → json.Json → List ℕ → json.Json → List ℕ → json.Json → json.Members
three k h l i m j = json.member k h (two l i m j)
