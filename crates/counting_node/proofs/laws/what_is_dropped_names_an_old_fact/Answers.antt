use Rattle.counting_node.proofs.Common.{Blockers, Witnesses, Held, where_unblocked, where_witnessed, result_for, without_value, shows_value, itself, shows_any}
use Rattle.counting_node.proofs.Lawful.{drop_law, itself_facts, without_value_facts}
use Rattle.counting_node.proofs.laws.what_is_dropped_names_an_old_fact.Goals as goal

pub returns-clause-blockers : goal.returns-clause-blockers
returns-clause-blockers c = drop_law Blockers itself shows_any where_unblocked itself_facts

pub returns-clause-witnesses : goal.returns-clause-witnesses
returns-clause-witnesses c = drop_law Witnesses itself shows_any where_witnessed itself_facts

pub returns-clause-gathered : goal.returns-clause-gathered
returns-clause-gathered c a = drop_law Held without_value shows_value (result_for a) without_value_facts
