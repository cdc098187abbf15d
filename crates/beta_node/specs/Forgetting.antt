-- What is given where a node forgets.
use Rattle.std.specs.Prelude.{◌≡◌, not, true, Bool, List}
use Rattle.row_delta.specs.{declared.row.{Named.{Named}, Row.{Row}}, Rows.{has}}
use Rattle.rule_model.specs.{declared.program.Program.{Program}, Distinct.{HaveDistinctTags}, Snapshots.{Snapshot}}
use Rattle.join_tests.specs.Joins.{Look}
use Rattle.join_memory.specs.Standing.{clean, cleaned}
use Rattle.condition_rows.specs.Looks.{HasAllOf, NameHeld}
use Rattle.beta_node.specs.{declared.node.Node.{Node}, Nodes.{NodeStands}}

-- The node stands for these rows before it, in a snapshot of which the store has what was not forgotten before; and of these rows those are
-- dropped that name an old fact.
pub record ForgetsIn (p : Program) (node : Node) (look : Look) (s : Snapshot) (left : Row → Bool) (forgotten old : Named → Bool) (dropped : List Row) : Type 0 where
  pub tags : HaveDistinctTags s.facts
  pub at_hand : HasAllOf look s forgotten
  pub named : NameHeld s left
  pub stands : NodeStands p node look s left forgotten
  pub rows : (row : Row) → cleaned left forgotten row ≡ true → has dropped row ≡ not (clean old row)
