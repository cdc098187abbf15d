-- When a row is mature, which rows a not has, and what a step, forgetting and a change of the store are for them.
use Rattle.std.specs.{Prelude.{◌≡◌, ◌&&◌, ◌≤ℤ◌, not, true, false, int_lt, Bool, cond, List, None, ℤ}, List.{list_any}}
use Rattle.row_delta.specs.{declared.{row.{Named.{Named}, Row.{Row}}, delta.Delta.{Delta}}, Rows.{has}}
use Rattle.row_change.specs.Changes.{LeadsRows, IsDifference}
use Rattle.rule_model.specs.{declared.{condition.Pattern.{Pattern}, program.Program.{Program}}, Lent.{Holds, bound_in}, Maturity.{is_mature}, Tuples.{Tuple}}
use Rattle.rule_model.specs.Tuples.{row_of, bound_by}
use Rattle.join_tests.specs.Joins.{Look}
use Rattle.join_memory.specs.{Joined.{has_name}, Memories.{left_at, Agrees}, Standing.{clean, cleaned, either, remembered, PassesAlike, StandsFor, LooksAlike}}
use Rattle.join_memory.specs.Inputs.{IsNameDifference, IsStepped}
use Rattle.counting_node.specs.{Counts.{counts_blockers}, Laws.{StandsCounted, ForgottenStay}, Tallies.{SeeAlike, TallyStep}}
use Rattle.not_node.specs.{declared.node.NotNode.{NotNode}, Moments.{moment_at}, Rows.{IsInStep, not_rows}, Waiting.{waits, mature}, Doors.{blocking_pattern}}

-- A row that waits for its moment is mature where its tuple is.
abbrev pub MaturityLaw : Type 0
MaturityLaw = (p : Program) (pattern : Pattern) (look : Look) (tuple : Tuple) (floor : ℤ) → Holds look tuple.facts
    → mature floor (moment_at p pattern look (row_of tuple)) ≡ is_mature p pattern (bound_by tuple) floor

-- the line of a not: the left rows for which none of the candidates passes and that are mature
abbrev pub not_line : Program → Pattern → Look → ℤ → (Row → Named → Bool) → (Row → Bool) → List Named → Row → Bool
not_line p pattern look floor pass rows names row = (rows row && not (list_any (pass row) names)) && is_mature p pattern (bound_in look row) floor

-- The rows of a node that stands for left rows and a list of candidates are the left rows for which none of the candidates passes and
-- that are mature.
abbrev pub NotLaw : Type 0
NotLaw = (p : Program) (node : NotNode) (look world : Look) (pass : Row → Named → Bool) (rows : Row → Bool) (names : List Named) (forgotten : Named → Bool)
    → StandsCounted counts_blockers node.tally.memories look world pass rows (has_name names) forgotten
    → (row : Row) → not_rows p look node row ≡ not_line p (blocking_pattern node) look node.ripening.floor pass (cleaned rows forgotten) names row

-- For the true differences of its two inputs a node that stands for left rows and candidates answers the true difference of its line,
-- and stands for the new ones.
abbrev pub NotStepLaw : Type 0
NotStepLaw = (p : Program) (m n : NotNode) (look world : Look) (pass : Row → Named → Bool) (rows rows_now : Row → Bool) (names names_now : List Named) (forgotten : Named → Bool) (left right delta : Delta)
    → StandsCounted counts_blockers m.tally.memories look world pass rows (has_name names) forgotten
    → PassesAlike (blocking_pattern m) look pass rows (has_name names) forgotten → PassesAlike (blocking_pattern m) look pass rows_now (has_name names_now) forgotten
    → LeadsRows (cleaned rows forgotten) (cleaned rows_now forgotten) left.gone left.come → IsNameDifference (remembered (has_name names) forgotten) (remembered (has_name names_now) forgotten) right
    → SeeAlike (either (remembered (has_name names) forgotten) (remembered (has_name names_now) forgotten)) look world → ForgottenStay pass rows rows_now (has_name names) (has_name names_now) forgotten left
    → IsStepped m.tally.memories n.tally.memories look left right → TallyStep counts_blockers look m.tally.memories n.tally.memories left right
    → IsDifference (not_rows p look m) (not_rows p look n) delta
    → StandsCounted counts_blockers n.tally.memories look world pass rows_now (has_name names_now) forgotten
    × IsDifference (not_line p (blocking_pattern m) look m.ripening.floor pass (cleaned rows forgotten) names) (not_line p (blocking_pattern m) look n.ripening.floor pass (cleaned rows_now forgotten) names_now) delta

-- Of the rows that a node has, those go with the left rows that are dropped that name an old fact.
abbrev pub NotDropLaw : Type 0
NotDropLaw = (p : Program) (m n : NotNode) (look : Look) (rows : Row → Bool) (names forgotten old : Named → Bool) (dropped gone : List Row)
    → StandsFor m.tally.memories look rows names forgotten
    → ((row : Row) → cleaned rows forgotten row ≡ true → has dropped row ≡ not (clean old row))
    → blocking_pattern n ≡ blocking_pattern m → n.ripening.floor ≡ m.ripening.floor
    → ((row : Row) → left_at n.tally.memories look row ≡ cond (has dropped row) None (left_at m.tally.memories look row))
    → ((row : Row) → has gone row ≡ (not_rows p look m row && not (not_rows p look n row)))
    → (row : Row) → not_rows p look m row ≡ true → has gone row ≡ not (clean old row)

-- In a store with the same facts at the tags that are kept, a node has the same rows, and those that wait wait for the same moments.
abbrev pub NotMoveLaw : Type 0
NotMoveLaw = (p : Program) (node : NotNode) (look other : Look) → Agrees node.tally.memories look → LooksAlike node.tally.memories look other
    → ((row : Row) → not_rows p other node row ≡ not_rows p look node row) × (IsInStep p look node → IsInStep p other node)

-- the node with another floor
abbrev pub with_floor : NotNode → ℤ → NotNode
with_floor node floor = record { tally = node.tally; ripening = record { floor = floor; waiting = node.ripening.waiting } }

-- With a later floor that is not above the moment of a row that waits, a node has the same rows, and the same rows wait.
abbrev pub QuietLaw : Type 0
QuietLaw = (p : Program) (node : NotNode) (look : Look) (floor : ℤ) → IsInStep p look node → node.ripening.floor ≤ℤ floor
    → ((at : ℤ) (row : Row) → waits node.ripening.waiting.keys at row ≡ true → int_lt at floor ≡ false)
    → IsInStep p look (with_floor node floor) × ((row : Row) → not_rows p look (with_floor node floor) row ≡ not_rows p look node row)
