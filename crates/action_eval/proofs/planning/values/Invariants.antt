use Rattle.{std.proofs.Common.{◌≡◌, Some, take}, rule_model.specs.{Lent.{bound_in}, Numbers.{values_of}}}
use Rattle.action_eval.proofs.planning.values.Given as goal

-- what stands is the values of the expressions before this one
abbrev pub invariant-loop-expr : goal.invariant-loop-expr
invariant-loop-expr g l = Some l.values.items ≡ values_of (bound_in (g.F.Facts.map l.facts) l.row) (take l.expr-index l.exprs)
