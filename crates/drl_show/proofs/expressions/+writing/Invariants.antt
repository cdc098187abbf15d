use Rattle.drl_show.proofs.Common.{◌+◌, ◌*◌, max, height}
use Rattle.drl_show.proofs.expressions.+writing.Given as goal

abbrev pub decreases-expr : goal.decreases-expr
decreases-expr l = 3 * height l.tree.now

abbrev pub decreases-operand : goal.decreases-operand
decreases-operand l = 3 * height l.tree.now + 1

abbrev pub decreases-pair : goal.decreases-pair
decreases-pair l = 3 * max (height l.left.now) (height l.right.now) + 2
