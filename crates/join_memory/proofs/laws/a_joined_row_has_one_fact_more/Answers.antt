use Rattle.join_memory.proofs.Joining.{joined_with, joined_from}
use Rattle.join_memory.proofs.laws.a_joined_row_has_one_fact_more.Goals as goal

pub returns-clause-made : goal.returns-clause-made
returns-clause-made c = joined_with

pub returns-clause-from : goal.returns-clause-from
returns-clause-from c = joined_from
