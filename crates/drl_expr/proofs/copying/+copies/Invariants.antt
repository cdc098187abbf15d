use Rattle.{std.proofs.Common.{◌+◌, ◌*◌}, drl_expr.specs.Tree.{height}}
use Rattle.drl_expr.proofs.copying.+copies.Given as goal

abbrev pub decreases-expression : goal.decreases-expression
decreases-expression l = 2 * height l.tree.now

abbrev pub decreases-boxed : goal.decreases-boxed
decreases-boxed l = 2 * height l.tree.now + 1
