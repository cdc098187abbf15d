-- Names with the place of the first of each.
use Rattle.std.specs.{Prelude.{◌≡◌, ℕ, List}, Str.{bytes_eq}, HashMap.{HashMap, get}}
use Rattle.drl_scope.specs.Names.{place_of_name}

-- the map has at each name the place of the first of this name
abbrev pub AreFirst : {S : Type 0} → List (List ℕ) → HashMap (List ℕ) ℕ S → Type 0
AreFirst names first = (name : List ℕ) → get bytes_eq first name ≡ place_of_name names name
