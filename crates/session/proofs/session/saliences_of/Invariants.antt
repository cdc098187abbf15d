use Rattle.session.proofs.Common.{◌≡◌, ◌++◌, drop, saliences}
use Rattle.session.proofs.session.saliences_of.Given as goal

abbrev pub invariant-loop-rule : goal.invariant-loop-rule
invariant-loop-rule l = l.all.items ++ saliences (drop l.rule-index l.rules) ≡ saliences l.rules
