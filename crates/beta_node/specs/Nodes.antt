-- Of which condition a node is, and for which rows it stands.
use Rattle.std.specs.Prelude.{◌≡◌, ◌≤ℤ◌, Bool, true, false}
use Rattle.row_delta.specs.declared.row.{Named.{Named}, Row.{Row}}
use Rattle.rule_model.specs.declared.{condition.Condition.{Condition, TheVariants.{Plain, Negated, Existing, Folded}}, program.Program.{Program}}
use Rattle.rule_model.specs.Snapshots.{Snapshot, floor}
use Rattle.join_tests.specs.Joins.{Look, joins}
use Rattle.join_memory.specs.{declared.memories.Memories.{Memories}, Standing.{StandsFor}}
use Rattle.counting_node.specs.{Counts.{counts_blockers, counts_witnesses}, Gathers.{gathers}, Laws.{StandsCounted}, Doors.{tallied_pattern}}
use Rattle.not_node.specs.{declared.node.NotNode.{NotNode}, Rows.{IsInStep}, Waiting.{NoneDue}, Doors.{awaited_entry, blocker_tallies, blocking_pattern}}
use Rattle.not_node.specs.Doors.{reached_floor, waiting_rows}
use Rattle.condition_rows.specs.Sets.{held, candidates_of}
use Rattle.beta_node.specs.declared.node.{FoldNode.{FoldNode}, Node.{Node}}
use Rattle.beta_node.specs.declared.node.Node.TheVariants as node
use Rattle.beta_join.specs.Doors.{joined_pattern}

-- the condition of a node
abbrev pub condition_of : Node → Condition
condition_of (node.Join join) = Plain (joined_pattern join)
condition_of (node.Not waiting) = Negated (blocking_pattern waiting)
condition_of (node.Exists tally) = Existing (tallied_pattern tally)
condition_of (node.Fold fold) = Folded fold.accumulate

-- a `not`, whose rows the clock alone may change
abbrev pub is_negated : Condition → Bool
is_negated (Plain pattern) = false
is_negated (Negated pattern) = true
is_negated (Existing pattern) = false
is_negated (Folded accumulate) = false

-- the tallies are those of the candidates of the snapshot that pass for each row
abbrev pub CountsPartners : {T : Type 0} → (T → Look → (Named → Bool) → Type 0) → Program → Memories T → Look → Snapshot → (Row → Bool) → (Named → Bool) → Type 0
CountsPartners holds p m look s rows forgotten =
    StandsCounted holds m look (held s) (joins m.pattern (held s)) rows (candidates_of p m.pattern s) forgotten

-- The node of a `not` also waits for the moments of its rows. Its floor is not above the one of the snapshot, and no row that waits has its
-- moment from the one to below the other: by both it has the same rows.
pub record WaitsFor (p : Program) (waiting : NotNode) (look : Look) (s : Snapshot) (rows : Row → Bool) (forgotten : Named → Bool) : Type 0 where
  pub counts : CountsPartners counts_blockers p (blocker_tallies waiting) look s rows forgotten
  pub in_step : IsInStep p look waiting
  pub none_due : NoneDue (waiting_rows waiting) (floor p s (awaited_entry waiting))
  pub floor : reached_floor waiting ≤ℤ floor p s (awaited_entry waiting)

-- the node of an accumulate looks at the facts of its pattern
pub record FoldsFor (p : Program) (fold : FoldNode) (look : Look) (s : Snapshot) (rows : Row → Bool) (forgotten : Named → Bool) : Type 0 where
  pub counts : CountsPartners (gathers fold.accumulate) p fold.tally.memories look s rows forgotten
  pub pattern : tallied_pattern fold.tally ≡ fold.accumulate.pattern

-- The node keeps those of these rows, and of the candidates of the snapshot, that name no forgotten fact; and what it counts or gathers
-- beside each row is of all candidates, forgotten ones too.
abbrev pub NodeStands : Program → Node → Look → Snapshot → (Row → Bool) → (Named → Bool) → Type 0
NodeStands p (node.Join join) look s rows forgotten = StandsFor join.memories look rows (candidates_of p (joined_pattern join) s) forgotten
NodeStands p (node.Not waiting) look s rows forgotten = WaitsFor p waiting look s rows forgotten
NodeStands p (node.Exists tally) look s rows forgotten = CountsPartners counts_witnesses p tally.memories look s rows forgotten
NodeStands p (node.Fold fold) look s rows forgotten = FoldsFor p fold look s rows forgotten
