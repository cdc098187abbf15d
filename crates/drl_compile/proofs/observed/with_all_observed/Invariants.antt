use Rattle.drl_compile.proofs.Common.{◌≡◌, ◌++◌, drop, flat_map, observed_by}
use Rattle.drl_compile.proofs.observed.with_all_observed.Given as goal

abbrev pub invariant-loop-tree : goal.invariant-loop-tree
invariant-loop-tree l = l.names ++ flat_map observed_by (drop l.tree-index l.trees) ≡ l.fn.names ++ flat_map observed_by l.trees
