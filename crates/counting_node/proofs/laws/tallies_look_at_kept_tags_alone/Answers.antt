use Rattle.counting_node.proofs.{Common.{Blockers, Witnesses, Held, counts_blockers, counts_witnesses, gathers}, Lawful.{move_law}}
use Rattle.counting_node.proofs.laws.tallies_look_at_kept_tags_alone.Goals as goal

pub returns-clause-blockers : goal.returns-clause-blockers
returns-clause-blockers c = move_law Blockers counts_blockers

pub returns-clause-witnesses : goal.returns-clause-witnesses
returns-clause-witnesses c = move_law Witnesses counts_witnesses

pub returns-clause-gathered : goal.returns-clause-gathered
returns-clause-gathered c a = move_law Held (gathers a)
