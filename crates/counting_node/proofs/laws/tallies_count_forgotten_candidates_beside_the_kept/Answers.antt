use Rattle.counting_node.proofs.{Common.{counts_blockers, counts_witnesses, gathers, blockers_laden, witnesses_laden, gathered_laden}, Resuming.{others_law}}
use Rattle.counting_node.proofs.laws.tallies_count_forgotten_candidates_beside_the_kept.Goals as goal

pub returns-clause-blockers : goal.returns-clause-blockers
returns-clause-blockers c = others_law counts_blockers blockers_laden

pub returns-clause-witnesses : goal.returns-clause-witnesses
returns-clause-witnesses c = others_law counts_witnesses witnesses_laden

pub returns-clause-gathered : goal.returns-clause-gathered
returns-clause-gathered c a = others_law (gathers a) (gathered_laden a)
