use Rattle.join_memory.proofs.{Common.{row_cmp}, Found.{nothing_sorted}}
use Rattle.join_memory.proofs.memories.Memories.partners_under.Goals as goal

pub returns-in-None-clause-in_order : goal.returns-in-None-clause-in_order
returns-in-None-clause-in_order g c = nothing_sorted row_cmp c.new.result.items c.new.ensures.items
