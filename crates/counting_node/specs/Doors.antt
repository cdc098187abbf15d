-- The parts of a node with tallies, as other crates name them.
use Rattle.fx_base.specs.declared.value.Value.{Value}
use Rattle.row_delta.specs.declared.row.Named.{Named}
use Rattle.rule_model.specs.declared.condition.Pattern.{Pattern}
use Rattle.alpha_memory.specs.declared.join_index.JoinIndex.{JoinIndex}
use Rattle.counting_node.specs.declared.node.TallyNode.{TallyNode}

-- the pattern whose candidates are tallied beside each row
abbrev pub tallied_pattern : {T : Type 0} → TallyNode T → Pattern
tallied_pattern node = node.memories.pattern

-- the candidates that are tallied, by their join values
abbrev pub tallied_candidates : {T : Type 0} → TallyNode T → JoinIndex Value Named (Unit {0})
tallied_candidates node = node.memories.right
