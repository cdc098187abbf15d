use Rattle.counting_node.proofs.Common.{counts_blockers, counts_witnesses, gathers, blockers_laden, witnesses_laden, gathered_laden, nothing_gathered}
use Rattle.counting_node.proofs.{Common.{arguments_gathered}, Resuming.{resume_law, blockers_made_up, witnesses_made_up, gathered_made_up}}
use Rattle.counting_node.proofs.laws.what_is_loaded_stands_for_what_is_forgotten.Goals as goal

pub returns-clause-blockers : goal.returns-clause-blockers
returns-clause-blockers c = resume_law counts_blockers blockers_laden nothing_gathered blockers_made_up

pub returns-clause-witnesses : goal.returns-clause-witnesses
returns-clause-witnesses c = resume_law counts_witnesses witnesses_laden nothing_gathered witnesses_made_up

pub returns-clause-gathered : goal.returns-clause-gathered
returns-clause-gathered c a = resume_law (gathers a) (gathered_laden a) (arguments_gathered a) (gathered_made_up a)
