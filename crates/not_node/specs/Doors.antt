-- The parts of the node of a `not`, as other crates name them.
use Rattle.std.specs.Prelude.{ℕ, ℤ, List}
use Rattle.fx_base.specs.declared.value.Value.{Value}
use Rattle.row_delta.specs.declared.row.{Named.{Named}, Row.{Row}}
use Rattle.alpha_memory.specs.declared.join_index.JoinIndex.{JoinIndex}
use Rattle.rule_model.specs.declared.condition.Pattern.{Pattern}
use Rattle.join_memory.specs.declared.memories.Memories.{Memories}
use Rattle.counting_node.specs.{declared.count.Blockers.{Blockers}, Doors.{tallied_candidates, tallied_pattern}}
use Rattle.not_node.specs.declared.node.NotNode.{NotNode}

-- the rows before it, each with the number of facts that block it, and these facts
abbrev pub blocker_tallies : NotNode → Memories Blockers
blocker_tallies node = node.tally.memories

-- the node with these tallies in place of its own
abbrev pub with_tallies : Memories Blockers → NotNode → NotNode
with_tallies tallies node = record { tally = record { memories = tallies }; ripening = node.ripening }

-- the pattern whose candidates block rows
abbrev pub blocking_pattern : NotNode → Pattern
blocking_pattern node = tallied_pattern node.tally

-- the candidates that block rows, by their join values
abbrev pub blocking_candidates : NotNode → JoinIndex Value Named (Unit {0})
blocking_candidates node = tallied_candidates node.tally

-- the entry point by whose floor rows are mature
abbrev pub awaited_entry : NotNode → ℕ
awaited_entry node = (blocking_pattern node).entry.0

-- the floor up to which rows were let through
abbrev pub reached_floor : NotNode → ℤ
reached_floor node = node.ripening.floor

-- the rows that wait, each behind its moment, in order
abbrev pub waiting_rows : NotNode → List (ℤ × Row)
waiting_rows node = node.ripening.waiting.keys
