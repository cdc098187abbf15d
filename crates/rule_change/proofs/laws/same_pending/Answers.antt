use Rattle.rule_change.proofs.Matching.{same_pending}
use Rattle.rule_change.proofs.laws.same_pending.Goals as goal

pub returns : goal.returns
returns c = same_pending
