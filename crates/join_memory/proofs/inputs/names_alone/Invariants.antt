use Rattle.join_memory.proofs.Common.{◌≡◌, take, Named, has, has_name, row_naming}
use Rattle.join_memory.proofs.inputs.names_alone.Given as goal

abbrev pub invariant-loop-row : goal.invariant-loop-row
invariant-loop-row l = (who : Named) → has_name l.names.items who ≡ has (take l.row-index l.rows) (row_naming who)
