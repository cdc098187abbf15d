use Rattle.drl_compile.proofs.Common.{◌≡◌, ◌+◌, ◌++◌, ◌≤◌, drop, begin, behind_all, conditions_meant}
use Rattle.drl_compile.proofs.conditions_of.conditions.Given as goal

abbrev pub invariant-loop-tree : goal.invariant-loop-tree
invariant-loop-tree l = record {
  same : l.conditions.items ++ conditions_meant l.types l.entries l.place (drop l.tree-index l.trees) ≡ conditions_meant l.types l.entries begin l.trees;
  last : behind_all l.types l.place (drop l.tree-index l.trees) ≡ behind_all l.types begin l.trees;
  counts : l.place.facts + l.place.results ≤ l.tree-index;
}
