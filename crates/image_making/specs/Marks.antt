-- What is told of matches one after the other.
use Rattle.std.specs.{Prelude.{◌||◌, ℕ, Bool, cond, List, [], ◌∷◌, Option}, List.{list_any}}
use Rattle.rule_change.specs.Told.{is_place}
use Rattle.rule_model.specs.{declared.matched.Match.{Match}, Matches.{has_match}}

abbrev pub if_marked : Bool → Match → List Match
if_marked marked m = cond marked (m ∷ []) []

-- the match was fired, or its rule stays as one of these
abbrev pub is_told : List (Option ℕ) → List Match → Match → Bool
is_told places fired m = has_match fired m || list_any (is_place m.rule.0) places
