use Rattle.{drl_scope.proofs.Common.{◌+◌, ◌*◌, max}, drl_expr.specs.Tree.{height}}
use Rattle.drl_scope.proofs.operands.+leaves.Given as goal

abbrev pub decreases-some_in_tree : goal.decreases-some_in_tree
decreases-some_in_tree g l = 2 * height l.tree.now

abbrev pub decreases-some_in_pair : goal.decreases-some_in_pair
decreases-some_in_pair g l = 2 * max (height l.left.now) (height l.right.now) + 1
