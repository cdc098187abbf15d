use Rattle.rule_eval.proofs.Common.{◌≡◌, ◌++◌, map, drop, row_of}
use Rattle.rule_eval.proofs.bindings.rows_named.Given as goal

abbrev pub invariant-loop-bindings : goal.invariant-loop-bindings
invariant-loop-bindings l = l.rows.items ++ map row_of (drop l.bindings-index l.all) ≡ map row_of l.all
