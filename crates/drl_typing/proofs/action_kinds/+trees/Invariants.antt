use Rattle.{drl_typing.proofs.Common.{◌+◌, ◌*◌, max}, drl_expr.specs.Tree.{height}}
use Rattle.drl_typing.proofs.action_kinds.+trees.Given as goal

abbrev pub decreases-kind_of_tree : goal.decreases-kind_of_tree
decreases-kind_of_tree l = 2 * height l.tree.now

abbrev pub decreases-are_numbers : goal.decreases-are_numbers
decreases-are_numbers l = 2 * max (height l.left.now) (height l.right.now) + 1
