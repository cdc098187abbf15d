use Rattle.rule_change.proofs.Carrying.{carried_is_safe}
use Rattle.rule_change.proofs.laws.carried_lives_are_safe.Goals as goal

pub returns : goal.returns
returns c = carried_is_safe
