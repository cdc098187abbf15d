use Rattle.subrules.proofs.Common.{◌≡◌, ◌++◌, map, drop, place_of_name}
use Rattle.subrules.proofs.hierarchy.places_of.Given as goal

abbrev pub invariant-loop-name : goal.invariant-loop-name
invariant-loop-name l = l.places.items ++ map (place_of_name l.names) (drop l.name-index l.first) ≡ map (place_of_name l.names) l.first
