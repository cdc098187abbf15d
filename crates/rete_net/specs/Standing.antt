-- For which snapshot a node of a network stands, alone and in its place, and which one is new.
use Rattle.std.specs.Prelude.{◌≡◌, ℕ, Bool, true, Option, Some, None}
use Rattle.row_delta.specs.declared.row.{Named.{Named}, Row.{Row}}
use Rattle.rule_model.specs.{declared.program.Program.{Program}, Rows.{pattern_of}, Snapshots.{Snapshot}}
use Rattle.join_tests.specs.Kept.{row_value}
use Rattle.join_memory.specs.Standing.{cleaned, no_rows}
use Rattle.condition_rows.specs.{Looks.{empty_snapshot}, Sets.{held}}
use Rattle.pattern_gate.specs.Gates.{GateStands}
use Rattle.candidate_source.specs.{declared.source.Source.{Source}, Doors.{source_candidates, source_gate, is_reached}}
use Rattle.beta_node.specs.{Lending.{with_candidates}, Nodes.{condition_of, NodeStands}}
use Rattle.rete_net.specs.declared.node.NetNode.{NetNode}

-- A node and its gate stand for the rows of the conditions before it, in a snapshot. The node has dropped what was forgotten; the gate
-- stands for the whole snapshot, since a gate without a window keeps nothing.
pub record NetNodeStands (p : Program) (n : NetNode) (s : Snapshot) (rows : Row → Bool) (forgotten : Named → Bool) : Type 0 where
  pub gate : GateStands p (pattern_of (condition_of n.node)) n.gate s
  pub node : NodeStands p n.node (held s) s rows forgotten

-- a new node stands where there is nothing, whatever is called forgotten
abbrev pub IsFresh : Program → NetNode → Type 0
IsFresh p n = (forgotten : Named → Bool) → NetNodeStands p n empty_snapshot no_rows forgotten

-- ---- in its place

-- the node with its source's gate and candidates in place of its own, if it is of one
abbrev pub taking : Option Source → NetNode → NetNode
taking None n = n
taking (Some s) n = record { parent = n.parent; gate = source_gate s; node = with_candidates (source_candidates s) n.node }

-- Each remembered row before a node of a source finds the node in its place: under the value under which it is kept, by the facts of the
-- snapshot.
abbrev pub IsFound : Option Source → ℕ → NetNode → Snapshot → (Row → Bool) → (Named → Bool) → Type 0
IsFound None k n s rows forgotten = Unit {0}
IsFound (Some source) k n s rows forgotten =
    (row : Row) → cleaned rows forgotten row ≡ true → is_reached source (row_value (pattern_of (condition_of n.node)) (held s) row) k ≡ true

-- a node, with what it takes from its source, stands for the rows before it, and is found by them
pub record StandsIn (p : Program) (source : Option Source) (k : ℕ) (n : NetNode) (s : Snapshot) (rows : Row → Bool) (forgotten : Named → Bool) : Type 0 where
  pub stands : NetNodeStands p (taking source n) s rows forgotten
  pub found : IsFound source k n s rows forgotten
