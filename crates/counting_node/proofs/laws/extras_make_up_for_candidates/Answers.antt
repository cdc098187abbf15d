use Rattle.counting_node.proofs.Resuming.{blockers_made_up, witnesses_made_up, gathered_made_up}
use Rattle.counting_node.proofs.laws.extras_make_up_for_candidates.Goals as goal

pub returns-clause-blockers : goal.returns-clause-blockers
returns-clause-blockers c = blockers_made_up

pub returns-clause-witnesses : goal.returns-clause-witnesses
returns-clause-witnesses c = witnesses_made_up

pub returns-clause-gathered : goal.returns-clause-gathered
returns-clause-gathered c a = gathered_made_up a
