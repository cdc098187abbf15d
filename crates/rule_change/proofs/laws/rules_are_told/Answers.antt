use Rattle.rule_change.proofs.Telling.{told_exact, told_once}
use Rattle.rule_change.proofs.laws.rules_are_told.Goals as goal

pub returns-clause-exact : goal.returns-clause-exact
returns-clause-exact c = told_exact

pub returns-clause-once : goal.returns-clause-once
returns-clause-once c = told_once
