use Rattle.drl_compile.proofs.Common.{◌≡◌, ◌++◌, map, drop, result_test}
use Rattle.drl_compile.proofs.tests_of.result_tests.Given as goal

abbrev pub invariant-loop-tree : goal.invariant-loop-tree
invariant-loop-tree l = l.tests.items ++ map (result_test l.place.sight) (drop l.tree-index l.trees) ≡ map (result_test l.place.sight) l.trees
