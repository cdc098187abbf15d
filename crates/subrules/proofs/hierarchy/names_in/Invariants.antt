use Rattle.subrules.proofs.Common.{◌≡◌, ◌++◌, map, drop, written_type_names}
use Rattle.subrules.proofs.hierarchy.names_in.Given as goal

abbrev pub invariant-loop-tree : goal.invariant-loop-tree
invariant-loop-tree l = l.names.items ++ written_type_names (map (λ t. t.now) (drop l.tree-index l.types)) ≡ written_type_names (map (λ t. t.now) l.types)
