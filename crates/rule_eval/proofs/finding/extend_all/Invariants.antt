use Rattle.rule_eval.proofs.Common.{◌≡◌, ◌++◌, drop, filter, flat_map, passes, lent, pattern_of, made_by}
use Rattle.rule_eval.proofs.finding.extend_all.Given as goal

abbrev pub invariant-loop-bindings : goal.invariant-loop-bindings
invariant-loop-bindings l =
    l.out.items ++ flat_map (λ t. made_by l.finder.program.now l.finder.moment.now l.condition t (filter (passes (pattern_of l.condition) t) (lent l.candidates))) (drop l.bindings-index l.all)
    ≡ l.fn.out.items ++ flat_map (λ t. made_by l.finder.program.now l.finder.moment.now l.condition t (filter (passes (pattern_of l.condition) t) (lent l.candidates))) l.all
