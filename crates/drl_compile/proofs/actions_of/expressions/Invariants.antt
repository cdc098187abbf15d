use Rattle.drl_compile.proofs.Common.{◌≡◌, ◌++◌, map, drop, expression_in}
use Rattle.drl_compile.proofs.actions_of.expressions.Given as goal

abbrev pub invariant-loop-tree : goal.invariant-loop-tree
invariant-loop-tree l = l.made.items ++ map (expression_in l.place.sight) (drop l.tree-index l.trees) ≡ map (expression_in l.place.sight) l.trees
