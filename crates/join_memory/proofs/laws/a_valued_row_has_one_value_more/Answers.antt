use Rattle.join_memory.proofs.Valued.{valued_with, valued_from}
use Rattle.join_memory.proofs.laws.a_valued_row_has_one_value_more.Goals as goal

pub returns-clause-made : goal.returns-clause-made
returns-clause-made c = valued_with

pub returns-clause-from : goal.returns-clause-from
returns-clause-from c = valued_from
