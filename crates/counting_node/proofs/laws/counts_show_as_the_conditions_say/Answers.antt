use Rattle.counting_node.proofs.Lawful.{blockers_shown, witnesses_shown}
use Rattle.counting_node.proofs.laws.counts_show_as_the_conditions_say.Goals as goal

pub returns-clause-blockers : goal.returns-clause-blockers
returns-clause-blockers c = blockers_shown

pub returns-clause-witnesses : goal.returns-clause-witnesses
returns-clause-witnesses c = witnesses_shown
