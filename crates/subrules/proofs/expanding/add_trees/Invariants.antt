use Rattle.{subrules.proofs.Common.{◌≡◌, ◌++◌, map, at_line}, drl_grammar.specs.declared.file.Body.TheVariants.{Rule}}
use Rattle.subrules.proofs.expanding.add_trees.Given as goal

abbrev pub invariant-loop-tree : goal.invariant-loop-tree
invariant-loop-tree l = l.items.items ++ map (at_line l.item.line) (map Rule l.tree-iterator.rest.items) ≡ l.fn.items.items ++ map (at_line l.item.line) (map Rule l.fn.trees.items)
