-- Names: their lengths, their places in a list, and whether one stands twice.
use Rattle.std.specs.{Prelude.{ℕ, ◌+◌, ◌&&◌, Bool, true, not, List, [], ◌∷◌, length, nat_le, Option, Some, None, if◌then◌else◌}, Str.{bytes_eq}}
use Rattle.drl_expr.specs.Words.{is_among}

abbrev pub is_name_short : ℕ → List ℕ → Bool
is_name_short most name = nat_le (length name) most

-- no name stands twice
unfoldable pub are_distinct : List (List ℕ) → Bool
are_distinct [] = true
are_distinct (name ∷ names) = not (is_among names name) && are_distinct names

-- the place of the first that has this name, the first of the list having the given place
unfoldable pub place_from : ℕ → List (List ℕ) → List ℕ → Option ℕ
place_from k [] name = None
place_from k (first ∷ names) name = if bytes_eq first name then Some k else place_from (k + 1) names name

abbrev pub place_of_name : List (List ℕ) → List ℕ → Option ℕ
place_of_name names name = place_from 0 names name
