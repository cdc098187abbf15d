use Rattle.change_rules.proofs.LongEnough.{as_long_is_safe}
use Rattle.change_rules.proofs.laws.as_long_lives_are_safe.Goals as goal

pub returns : goal.returns
returns c = as_long_is_safe
