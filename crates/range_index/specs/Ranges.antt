-- Closed ranges of whole numbers, each with a place.
use Rattle.std.specs.{Prelude.{ℕ, ℤ, Bool, ◌&&◌, cond, List, [], ◌∷◌, int_le, nat_eq}, List.{list_any}}
use Rattle.range_index.specs.declared.placed.PlacedRange.{PlacedRange}

abbrev pub has_number : PlacedRange → ℤ → Bool
has_number range number = int_le range.least number && int_le number range.most

-- the places of the ranges that have a number, in the order of the ranges
abbrev pub places_with : ℤ → List PlacedRange → List ℕ
places_with number [] = []
places_with number (range ∷ ranges) = cond (has_number range number) (range.place ∷ places_with number ranges) (places_with number ranges)

-- whether a place is one of a range that has the number
abbrev pub is_found : ℤ → List PlacedRange → ℕ → Bool
is_found number ranges place = list_any (nat_eq place) (places_with number ranges)
