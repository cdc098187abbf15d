-- The members of an object by their names. Each name stands once, and what is no object has no member.
use Rattle.std.specs.Prelude.{ℕ, suc, ◌^◌, ℤ, pos, List, nat_le, Option, Some, None, option_map, option_and_then, if◌then◌else◌}
use Rattle.serde_json.specs.{Data.{Data, number, Members}, Events.{members_len}, Find.{get, as_str, as_object, as_i64}}

-- the text under this name
unfoldable pub text_member : List ℕ → Data → Option (List ℕ)
text_member name d = option_and_then as_str (get name d)

-- the members of the object under this name
unfoldable pub object_member : List ℕ → Data → Option Members
object_member name d = option_and_then as_object (get name d)

-- a number of JSON that is a whole number of 64 bits with sign
abbrev pub whole_of : Data → Option ℤ
whole_of (number n) = as_i64 n
whole_of d = None

-- the whole number under this name
unfoldable pub whole_member : List ℕ → Data → Option ℤ
whole_member name d = option_and_then whole_of (get name d)

-- from 1 on
abbrev pub from_one : ℤ → Option ℕ
from_one (pos (suc n)) = Some (suc n)
from_one n = None

-- the greatest number of firings that a line may ask for
unfoldable pub most_firings : ℕ
most_firings = 2 ^ 53

abbrev pub up_to_most : ℤ → Option ℕ
up_to_most (pos n) = if nat_le n most_firings then Some n else None
up_to_most n = None

-- the id under this name: a whole number from 1 on
unfoldable pub id_member : List ℕ → Data → Option ℕ
id_member name d = option_and_then from_one (whole_member name d)

-- the number of firings under this name: a whole number from 0 to 2^53
unfoldable pub count_member : List ℕ → Data → Option ℕ
count_member name d = option_and_then up_to_most (whole_member name d)

-- how many members an object has
unfoldable pub count : Data → Option ℕ
count d = option_map members_len (as_object d)
