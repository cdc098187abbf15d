-- The rows of a not.
use Rattle.std.specs.Prelude.{Bool}
use Rattle.row_delta.specs.declared.row.Row.{Row}
use Rattle.rule_model.specs.declared.program.Program.{Program}
use Rattle.join_tests.specs.Joins.{Look}
use Rattle.join_memory.specs.declared.memories.Memories.{Memories}
use Rattle.counting_node.specs.{declared.count.Blockers.{Blockers}, Counts.{where_unblocked}, Origins.{itself, shows_any}, Tallies.{shown}}
use Rattle.not_node.specs.{declared.node.NotNode.{NotNode}, Moments.{moment_at}, Waiting.{AwaitsMoments, ripe}, Doors.{blocking_pattern}}

-- the left rows for which no candidate is counted
abbrev pub unblocked : Memories Blockers → Look → Row → Bool
unblocked m look = shown itself shows_any where_unblocked m look

-- the rows that wait are those for which no candidate is counted and that are not mature, each for its moment by this store
abbrev pub IsInStep : Program → Look → NotNode → Type 0
IsInStep p look node = AwaitsMoments (moment_at p (blocking_pattern node) look) node.ripening.floor (unblocked node.tally.memories look) node.ripening.waiting.keys

-- the rows of the node: those for which no candidate is counted and that are mature
abbrev pub not_rows : Program → Look → NotNode → Row → Bool
not_rows p look node = ripe (moment_at p (blocking_pattern node) look) node.ripening.floor (unblocked node.tally.memories look)
