use Rattle.rule_eval.proofs.Common.{◌≡◌, ◌++◌, drop, option_map, bounds_of, bound_by}
use Rattle.rule_eval.proofs.maturity.bounds_of.Given as goal

abbrev pub invariant-loop-test : goal.invariant-loop-test
invariant-loop-test l = option_map (λ bs. l.bounds.items ++ bs) (bounds_of (bound_by l.bindings) (drop l.test-index l.tests)) ≡ bounds_of (bound_by l.bindings) l.tests
