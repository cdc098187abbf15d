use Rattle.subrules.proofs.Common.{◌≡◌, ◌++◌, map, drop, option_and_then, place_of_name, WrittenType}
use Rattle.subrules.proofs.hierarchy.parents_of.Given as goal

abbrev pub invariant-loop-tree : goal.invariant-loop-tree
invariant-loop-tree l = l.parents.items ++ map (λ (t : WrittenType). option_and_then (place_of_name l.names) t.parent) (map (λ t. t.now) (drop l.tree-index l.types))
    ≡ map (λ (t : WrittenType). option_and_then (place_of_name l.names) t.parent) (map (λ t. t.now) l.types)
