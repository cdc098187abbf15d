use Rattle.{drl_limits.proofs.Common.{◌+◌, ◌*◌, max}, drl_expr.specs.Tree.{height}}
use Rattle.drl_limits.proofs.action_limits.+trees.Given as goal

abbrev pub decreases-is_tree_within : goal.decreases-is_tree_within
decreases-is_tree_within l = 2 * height l.tree.now

abbrev pub decreases-are_both_within : goal.decreases-are_both_within
decreases-are_both_within l = 2 * max (height l.left.now) (height l.right.now) + 1
