use Rattle.rule_change.proofs.Changing.{alike_at_change}
use Rattle.rule_change.proofs.laws.alike_at_change.Goals as goal

pub returns : goal.returns
returns c = alike_at_change
