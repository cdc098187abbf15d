use Rattle.rule_eval.proofs.{Common.{drop, lent, over}, Stepwise.{Leads}}
use Rattle.rule_eval.proofs.finding.found_bindings.Given as goal

abbrev pub invariant-loop-condition : goal.invariant-loop-condition
invariant-loop-condition l = Leads l.finder.program.now (over (lent l.facts) l.finder.moment.now) l.conditions (drop l.condition-index l.conditions) l.all.items
