-- What is found by name, and by place.
use Rattle.std.specs.Prelude.{◌≡◌, ℕ, List, map, Option, option_and_then}
use Rattle.drl_grammar.specs.declared.written.WrittenType.{WrittenType}
use Rattle.drl_scope.specs.Names.{place_of_name}
use Rattle.subrules.specs.Hierarchy.{written_type_names, first_names, extended}

-- the names of types, the place that each name means, the names that other types extend, and the places of the types that types extend
pub record IsIndexed (types : List WrittenType) (names : List (List ℕ)) (first : List (Option ℕ)) (above : List (List ℕ)) (parents : List (Option ℕ)) : Type 0 where
  pub all : names ≡ written_type_names types
  pub firsts : first ≡ map (place_of_name (written_type_names types)) (first_names types)
  pub extended_names : above ≡ extended types
  pub ups : parents ≡ map (λ (t : WrittenType). option_and_then (place_of_name (written_type_names types)) t.parent) types
