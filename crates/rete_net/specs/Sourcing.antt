-- Sources that are put for nodes, one node behind another.
use Rattle.std.specs.Prelude.{◌≡◌, ◌⊎◌, ◌+◌, ℕ, List, [], Option, Some, None, slice_get}
use Rattle.rule_model.specs.{declared.condition.{Condition.TheVariants.{Plain}, Pattern.{Pattern}}, Rows.{pattern_of}}
use Rattle.join_tests.specs.NameKeys.{name_key}
use Rattle.pattern_gate.specs.Alike.{TakesAlike}
use Rattle.candidate_source.specs.{declared.{source.Source.{Source}, sources.Sources.{Sources}}, Doors.{node_count, source_pattern}, Sources.{source_at}}
use Rattle.candidate_source.specs.Sources.{AreApart, IsNewSource}
use Rattle.beta_node.specs.Nodes.{condition_of}
use Rattle.rete_net.specs.{declared.{alike.SourceKey.{SourceKey}, fans.Seat.{Seat}, node.NetNode.{NetNode}}, Fans.{seat_at}}

-- what a pattern asks of a fact alone
abbrev pub bare : Pattern → Pattern
bare p = record p { joined = []; times = [] }

-- the key tells what the pattern takes, and how it keeps candidates
pub record IsKeyOf (p : Pattern) (key : SourceKey) : Type 0 where
  pub taken : key.taken ≡ Plain (bare p)
  pub kept : key.kept ≡ name_key p

-- patterns take and keep alike
pub record AreAlike (p q : Pattern) : Type 0 where
  pub takes : TakesAlike p q
  pub keeps : name_key p ≡ name_key q

-- A node is put behind the others: of no source, or, where it has no seat, of a new one.
pub record IsNodePut (p : Pattern) (seat : Option Seat) (old new : Sources) : Type 0 where
  pub many : node_count new ≡ node_count old + 1
  pub apart : AreApart new
  pub each : (k : ℕ) (s : Source) → source_at new k ≡ Some s → (source_at old k ≡ Some s) ⊎ ((k ≡ node_count old) × (seat ≡ None) × AreAlike p (source_pattern s))
  pub fresh : ((k : ℕ) (s : Source) → source_at old k ≡ Some s → IsNewSource (source_pattern s) s) → (k : ℕ) (s : Source) → source_at new k ≡ Some s → IsNewSource (source_pattern s) s

-- sources of the first nodes, so many
pub record AreSourcesBelow (nodes : List NetNode) (seats : List (Option Seat)) (sources : Sources) (n : ℕ) : Type 0 where
  pub apart : AreApart sources
  pub many : node_count sources ≡ n
  pub sourced : (k : ℕ) (node : NetNode) (s : Source) → slice_get nodes k ≡ Some node → source_at sources k ≡ Some s → AreAlike (pattern_of (condition_of node.node)) (source_pattern s)
  pub unseated : (k : ℕ) (s : Source) → source_at sources k ≡ Some s → seat_at seats k ≡ None
  pub fresh : (k : ℕ) (s : Source) → source_at sources k ≡ Some s → IsNewSource (source_pattern s) s
