use Rattle.counting_node.proofs.{Common.{Blockers, Witnesses, Held, counts_blockers, counts_witnesses, gathers}, Lawful.{tally_law}}
use Rattle.counting_node.proofs.laws.a_step_counts_all_candidates.Goals as goal

pub returns-clause-blockers : goal.returns-clause-blockers
returns-clause-blockers c = tally_law Blockers counts_blockers

pub returns-clause-witnesses : goal.returns-clause-witnesses
returns-clause-witnesses c = tally_law Witnesses counts_witnesses

pub returns-clause-gathered : goal.returns-clause-gathered
returns-clause-gathered c a = tally_law Held (gathers a)
