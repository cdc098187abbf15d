use Rattle.counting_node.proofs.{Common.{Blockers, Witnesses, Held, counts_blockers, counts_witnesses, gathers}, Lawful.{start_law}}
use Rattle.counting_node.proofs.laws.a_new_node_counts_nothing.Goals as goal

pub returns-clause-blockers : goal.returns-clause-blockers
returns-clause-blockers c = start_law Blockers counts_blockers

pub returns-clause-witnesses : goal.returns-clause-witnesses
returns-clause-witnesses c = start_law Witnesses counts_witnesses

pub returns-clause-gathered : goal.returns-clause-gathered
returns-clause-gathered c a = start_law Held (gathers a)
