-- The parts of the node of a pattern that binds a fact, as other crates name them.
use Rattle.fx_base.specs.declared.value.Value.{Value}
use Rattle.row_delta.specs.declared.row.Named.{Named}
use Rattle.rule_model.specs.declared.condition.Pattern.{Pattern}
use Rattle.alpha_memory.specs.declared.join_index.JoinIndex.{JoinIndex}
use Rattle.beta_join.specs.declared.join.BetaJoin.{BetaJoin}

-- the pattern whose candidates are joined to the rows
abbrev pub joined_pattern : BetaJoin → Pattern
joined_pattern join = join.memories.pattern

-- the candidates that are joined to the rows, by their join values
abbrev pub joined_candidates : BetaJoin → JoinIndex Value Named (Unit {0})
joined_candidates join = join.memories.right
