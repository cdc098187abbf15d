-- The parts of the rows that are kept before a node, as other crates name them.
use Rattle.std.specs.Prelude.{Bool, is_some}
use Rattle.join_memory.specs.declared.left_rows.LeftRows.{LeftRows}

-- whether they are kept by a range of time too
abbrev pub keeps_time : LeftRows → Bool
keeps_time rows = is_some rows.key.time
