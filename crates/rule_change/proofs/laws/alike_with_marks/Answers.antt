use Rattle.rule_change.proofs.Marking.{alike_marked, alike_without}
use Rattle.rule_change.proofs.laws.alike_with_marks.Goals as goal

pub returns-clause-stays : goal.returns-clause-stays
returns-clause-stays c = alike_marked

pub returns-clause-alone : goal.returns-clause-alone
returns-clause-alone c = alike_without
