use Rattle.drl_compile.proofs.Common.{◌≡◌, ◌++◌, map, drop, action_of}
use Rattle.drl_compile.proofs.programs.actions.Given as goal

abbrev pub invariant-loop-tree : goal.invariant-loop-tree
invariant-loop-tree l = l.actions.items ++ map (action_of l.types l.place.sight) (drop l.tree-index l.trees) ≡ map (action_of l.types l.place.sight) l.trees
