-- How long a move of the clock alone changes nothing in the nodes of a network.
use Rattle.std.specs.Prelude.{◌≡◌, ◌≤ℤ◌, ◌<ℤ◌, ◌^◌, pos, ℕ, ℤ, Bool, List, Option, Some, slice_get}
use Rattle.row_delta.specs.declared.row.{Named.{Named}, Row.{Row}}
use Rattle.rule_model.specs.{declared.program.Program.{Program}, Rows.{pattern_of}, Snapshots.{Snapshot}}
use Rattle.join_memory.specs.Standing.{cleaned}
use Rattle.condition_rows.specs.{Lines.{line}, Looks.{NameHeld}, Sets.{candidates_of}}
use Rattle.pattern_gate.specs.Moves.{IsOrderly, at_clock}
use Rattle.candidate_source.specs.{declared.sources.Sources.{Sources}, Sources.{source_at}}
use Rattle.beta_node.specs.{Nodes.{condition_of}, Quiet.{IsBefore}}
use Rattle.rete_net.specs.{declared.node.NetNode.{NetNode}, Standing.{taking, NetNodeStands}}

-- the clock alone changes nothing in the candidates of a node, nor in what its condition makes of rows before it, of what is not forgotten
pub record StaysAt (p : Program) (n : NetNode) (s : Snapshot) (rows : Row → Bool) (forgotten : Named → Bool) (clock : ℤ) : Type 0 where
  pub same_candidates : (who : Named) → candidates_of p (pattern_of (condition_of n.node)) (at_clock s clock) who ≡ candidates_of p (pattern_of (condition_of n.node)) s who
  pub same_line : (row : Row) → cleaned (line p (at_clock s clock) (condition_of n.node) rows) forgotten row ≡ cleaned (line p s (condition_of n.node) rows) forgotten row

-- so it is until this moment
abbrev pub IsNodeQuiet : Program → NetNode → Option ℤ → Type 0
IsNodeQuiet p n until = (s : Snapshot) (rows : Row → Bool) (forgotten : Named → Bool) (clock : ℤ) → NetNodeStands p n s rows forgotten → NameHeld s rows → IsOrderly p s → IsOrderly p (at_clock s clock)
    → pos 0 ≤ℤ s.clock → s.clock ≤ℤ clock → clock <ℤ pos (2 ^ 63) → IsBefore until clock
    → StaysAt p n s rows forgotten clock

-- the same of each node, with what it takes from its source
abbrev pub AreQuiet : Program → Sources → List NetNode → Option ℤ → Type 0
AreQuiet p sources nodes until = (k : ℕ) (n : NetNode) → slice_get nodes k ≡ Some n → IsNodeQuiet p (taking (source_at sources k) n) until
