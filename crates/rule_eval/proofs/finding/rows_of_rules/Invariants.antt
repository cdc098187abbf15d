use Rattle.rule_eval.proofs.Common.{◌≡◌, ◌++◌, map, drop, Rule, lent, over, rows}
use Rattle.rule_eval.proofs.finding.rows_of_rules.Given as goal

abbrev pub invariant-loop-rule : goal.invariant-loop-rule
invariant-loop-rule l =
    l.all.items ++ map (λ (rule : Rule). rows l.program (over (lent l.facts) l.moment) rule.conditions) (drop l.rule-index l.rule-items)
    ≡ map (λ (rule : Rule). rows l.program (over (lent l.facts) l.moment) rule.conditions) l.rule-items
