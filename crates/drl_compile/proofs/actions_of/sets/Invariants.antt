use Rattle.drl_compile.proofs.Common.{◌≡◌, ◌++◌, map, drop, set_in}
use Rattle.drl_compile.proofs.actions_of.sets.Given as goal

abbrev pub invariant-loop-tree : goal.invariant-loop-tree
invariant-loop-tree l = l.sets.items ++ map (set_in l.ty l.place.sight) (drop l.tree-index l.trees) ≡ map (set_in l.ty l.place.sight) l.trees
