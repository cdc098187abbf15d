use Rattle.counting_node.proofs.{Common.{counts_blockers, counts_witnesses, gathers, blockers_laden, witnesses_laden, gathered_laden}, Resuming.{load_law}}
use Rattle.counting_node.proofs.laws.a_load_leads_to_what_is_loaded.Goals as goal

pub returns-clause-blockers : goal.returns-clause-blockers
returns-clause-blockers c = load_law counts_blockers blockers_laden

pub returns-clause-witnesses : goal.returns-clause-witnesses
returns-clause-witnesses c = load_law counts_witnesses witnesses_laden

pub returns-clause-gathered : goal.returns-clause-gathered
returns-clause-gathered c a = load_law (gathers a) (gathered_laden a)
