use Rattle.rule_eval.proofs.Common.{◌≡◌, ◌++◌, map, drop, lent, with_fact}
use Rattle.rule_eval.proofs.finding.extend_by_each.Given as goal

abbrev pub invariant-loop-fact : goal.invariant-loop-fact
invariant-loop-fact l = l.out.items ++ map (with_fact l.bindings) (lent (drop l.fact-index l.passing)) ≡ l.fn.out.items ++ map (with_fact l.bindings) (lent l.passing)
