use Rattle.rule_eval.proofs.Common.{◌≡◌, ◌++◌, drop, filter, passes, lent}
use Rattle.rule_eval.proofs.bindings.Bindings.passing.Given as goal

abbrev pub invariant-loop-fact : goal.invariant-loop-fact
invariant-loop-fact l =
    lent l.found.items ++ filter (passes l.pattern l.self) (lent (drop l.fact-index l.candidates)) ≡ filter (passes l.pattern l.self) (lent l.candidates)
