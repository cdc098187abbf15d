use Rattle.change_rules.proofs.Lasting.{longest_is_as_long, longest_is_long_enough}
use Rattle.change_rules.proofs.laws.longest_lives_are_long_enough.Goals as goal

pub returns-clause-own : goal.returns-clause-own
returns-clause-own c = longest_is_as_long

pub returns-clause-other : goal.returns-clause-other
returns-clause-other c = longest_is_long_enough
