-- Nodes that take and keep candidates alike, and of which source they are.
use Rattle.std.specs.Prelude.{◌≡◌, ℕ, List, length, Some, None, slice_get}
use Rattle.rule_model.specs.Rows.{pattern_of}
use Rattle.join_tests.specs.NameKeys.{name_key}
use Rattle.pattern_gate.specs.Alike.{TakesAlike}
use Rattle.candidate_source.specs.{declared.{source.Source.{Source}, sources.Sources.{Sources}}, Doors.{source_pattern, node_count}, Sources.{source_at}}
use Rattle.candidate_source.specs.Sources.{AreApart}
use Rattle.beta_node.specs.Nodes.{condition_of}
use Rattle.rete_net.specs.{declared.{fans.Fans.{Fans}, node.NetNode.{NetNode}}, Fans.{seat_at}}

-- the node takes and keeps alike with the source
pub record IsSourced (s : Source) (n : NetNode) : Type 0 where
  pub alike : TakesAlike (pattern_of (condition_of n.node)) (source_pattern s)
  pub keeps : name_key (pattern_of (condition_of n.node)) ≡ name_key (source_pattern s)

-- The sources of nodes: those of a source have no seat in the fans.
pub record AreSources (nodes : List NetNode) (fans : Fans) (sources : Sources) : Type 0 where
  pub apart : AreApart sources
  pub many : node_count sources ≡ length nodes
  pub sourced : (k : ℕ) (n : NetNode) (s : Source) → slice_get nodes k ≡ Some n → source_at sources k ≡ Some s → IsSourced s n
  pub unseated : (k : ℕ) (s : Source) → source_at sources k ≡ Some s → seat_at fans.seats.items k ≡ None
