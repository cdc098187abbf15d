-- Which places ranges have for a number, whatever their order.
use Rattle.std.proofs.{Common.{◌≡◌, ◌∙◌, sym, ap, refl, ℕ, ℤ, ◌&&◌, ◌||◌, cond, Bool, true, false, List, [], ◌∷◌, ◌++◌, nat_eq}, Math.Bool.{or-false}}
use Rattle.std.{proofs.lemmas.List.{Folds.{list_any-append}, Sorted.{list_any-IsPermutation}}, specs.List.{list_any, Sorted.{IsPermutation}}}
use Rattle.range_index.specs.{Ranges.{has_number, is_found, places_with}, declared.placed.PlacedRange.{PlacedRange}}

abbrev pub finds : ℤ → ℕ → PlacedRange → Bool
finds number place range = has_number range number && nat_eq place range.place

found_by : (number : ℤ) (place : ℕ) (ranges : List PlacedRange) → is_found number ranges place ≡ list_any (finds number place) ranges
found_by number place [] = refl
found_by number place (range ∷ ranges) = by (has_number range number) (found_by number place ranges)
  where
    by : (b : Bool) → is_found number ranges place ≡ list_any (finds number place) ranges
        → list_any (nat_eq place) (cond b (range.place ∷ places_with number ranges) (places_with number ranges)) ≡ ((b && nat_eq place range.place) || list_any (finds number place) ranges)
    by true rest = ap (λ b. nat_eq place range.place || b) rest
    by false rest = rest

pub found_alike : (xs ys : List PlacedRange) → IsPermutation xs ys → (number : ℤ) (place : ℕ) → is_found number ys place ≡ is_found number xs place
found_alike xs ys same number place = found_by number place ys ∙ sym (list_any-IsPermutation (finds number place) xs ys same) ∙ sym (found_by number place xs)

pub found_more : (ranges now : List PlacedRange) (range : PlacedRange) → now ≡ ranges ++ range ∷ [] → (number : ℤ) (place : ℕ)
    → is_found number now place ≡ (is_found number ranges place || (has_number range number && nat_eq place range.place))
found_more ranges now range more number place =
    ap (λ all. is_found number all place) more ∙ found_by number place (ranges ++ range ∷ []) ∙ list_any-append (finds number place) ranges (range ∷ [])
    ∙ ap (λ b. list_any (finds number place) ranges || b) (or-false (finds number place range)) ∙ ap (λ b. b || finds number place range) (sym (found_by number place ranges))
