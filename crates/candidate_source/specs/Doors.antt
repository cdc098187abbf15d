-- The parts of candidates that are kept once, and of the sources of nodes, as other crates name them.
use Rattle.std.specs.Prelude.{ℕ, Bool, Option, length, slice_get}
use Rattle.fx_base.specs.declared.value.Value.{Value}
use Rattle.rule_model.specs.declared.condition.Pattern.{Pattern}
use Rattle.join_memory.specs.declared.candidates.Candidates.{Candidates}
use Rattle.pattern_gate.specs.declared.gate.PatternGate.{PatternGate}
use Rattle.candidate_source.specs.{declared.{source.Source.{Source}, sources.Sources.{Sources}}, Reached.{is_under}}

-- by whose pattern they are taken and kept
abbrev pub source_pattern : Source → Pattern
source_pattern s = s.own.pattern

-- the gate in front
abbrev pub source_gate : Source → PatternGate
source_gate s = s.gate

-- the candidates
abbrev pub source_candidates : Source → Candidates
source_candidates s = s.own

-- the node in a place is found under a value
abbrev pub is_reached : Source → Value → ℕ → Bool
is_reached s value k = is_under s.reached value k

-- of how many nodes sources are
abbrev pub node_count : Sources → ℕ
node_count sources = length sources.of.items

-- the source in a place of their list, of which a node may be
abbrev pub listed_source : Sources → ℕ → Option Source
listed_source sources at = slice_get sources.list.items at
