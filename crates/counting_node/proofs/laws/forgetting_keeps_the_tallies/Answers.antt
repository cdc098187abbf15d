use Rattle.counting_node.proofs.{Common.{Blockers, Witnesses, Held, counts_blockers, counts_witnesses, gathers}, Lawful.{forget_law}}
use Rattle.counting_node.proofs.laws.forgetting_keeps_the_tallies.Goals as goal

pub returns-clause-blockers : goal.returns-clause-blockers
returns-clause-blockers c = forget_law Blockers counts_blockers

pub returns-clause-witnesses : goal.returns-clause-witnesses
returns-clause-witnesses c = forget_law Witnesses counts_witnesses

pub returns-clause-gathered : goal.returns-clause-gathered
returns-clause-gathered c a = forget_law Held (gathers a)
