-- Nodes whose candidates are shared: they are lent to a node for its turn, in place of its own.
use Rattle.std.specs.{Prelude.{◌≡◌, Bool, List, Option, Some, None}, Option.{is_some}}
use Rattle.fx_base.specs.{declared.value.Value.{Value}, Values.{same_value}}
use Rattle.row_delta.specs.{declared.{delta.Delta.{Delta}, row.{Named.{Named}, Row.{Row}}}, Rows.{row_cmp}}
use Rattle.alpha_memory.specs.{declared.join_index.JoinIndex.{JoinIndex}, JoinIndex.{at, bucket_at}}
use Rattle.join_tests.specs.{Joins.{Look}, Kept.{row_value}}
use Rattle.join_memory.specs.{declared.{candidates.Candidates.{Candidates}, memories.Memories.{Memories}}, Joined.{has_name}, Memories.{has_right}}
use Rattle.join_memory.specs.Shared.{sharing, NamesAgree, ForgoesOld, TakesOver}
use Rattle.beta_join.specs.Doors.{joined_candidates}
use Rattle.counting_node.specs.Doors.{tallied_candidates}
use Rattle.not_node.specs.Doors.{blocker_tallies, blocking_candidates, with_tallies}
use Rattle.beta_node.specs.declared.node.Node.{Node}
use Rattle.beta_node.specs.declared.node.Node.TheVariants as node

-- the node with these candidates in place of its own
abbrev pub with_candidates : Candidates → Node → Node
with_candidates shared (node.Join join) = node.Join (record { memories = sharing join.memories shared })
with_candidates shared (node.Not waiting) = node.Not (with_tallies (sharing (blocker_tallies waiting) shared) waiting)
with_candidates shared (node.Exists tally) = node.Exists (record { memories = sharing tally.memories shared })
with_candidates shared (node.Fold fold) = node.Fold (record { accumulate = fold.accumulate; tally = record { memories = sharing fold.tally.memories shared } })

-- with these, where some are given, and else with its own
abbrev pub lent_to : Option Candidates → Node → Node
lent_to None n = n
lent_to (Some shared) n = with_candidates shared n

-- the candidates that it has, by their join values
abbrev pub candidates_in : Node → JoinIndex Value Named (Unit {0})
candidates_in (node.Join join) = joined_candidates join
candidates_in (node.Not waiting) = blocking_candidates waiting
candidates_in (node.Exists tally) = tallied_candidates tally
candidates_in (node.Fold fold) = tallied_candidates fold.tally

-- it has taken over shared candidates that have turned, and is handed those of them that may join a row before it
abbrev pub NodeTakes : Node → Candidates → Look → Delta → List Named → List Named → Type 0
NodeTakes (node.Join join) was look right gone come = TakesOver join.memories was look right gone come
NodeTakes (node.Not waiting) was look right gone come = TakesOver (blocker_tallies waiting) was look right gone come
NodeTakes (node.Exists tally) was look right gone come = TakesOver tally.memories was look right gone come
NodeTakes (node.Fold fold) was look right gone come = TakesOver fold.tally.memories was look right gone come

-- it has taken over shared candidates of which old ones were dropped, and is handed those of them that may join a row before it
abbrev pub NodeForgoes : Node → Candidates → Look → (Named → Bool) → List Named → Type 0
NodeForgoes (node.Join join) was look old gone = ForgoesOld join.memories was look old gone
NodeForgoes (node.Not waiting) was look old gone = ForgoesOld (blocker_tallies waiting) was look old gone
NodeForgoes (node.Exists tally) was look old gone = ForgoesOld tally.memories was look old gone
NodeForgoes (node.Fold fold) was look old gone = ForgoesOld fold.tally.memories was look old gone

-- memories have exactly these candidates, where they are looked up
pub record HasCandidates {S : Type 0} (m : Memories S) (look : Look) (names : List Named) : Type 0 where
  pub exact : (who : Named) → has_right m look who ≡ has_name names who
  pub agrees : NamesAgree m.pattern m.right look

-- the candidates that are lent to the node are these
abbrev pub NodeHas : Node → Look → List Named → Type 0
NodeHas (node.Join join) look names = HasCandidates join.memories look names
NodeHas (node.Not waiting) look names = HasCandidates (blocker_tallies waiting) look names
NodeHas (node.Exists tally) look names = HasCandidates tally.memories look names
NodeHas (node.Fold fold) look names = HasCandidates fold.tally.memories look names

-- the value under which memories keep a row
abbrev pub value_kept : {S : Type 0} → Memories S → Look → Row → Value
value_kept m look row = row_value m.pattern look row

-- and the node
abbrev pub node_value : Node → Look → Row → Value
node_value (node.Join join) look row = value_kept join.memories look row
node_value (node.Not waiting) look row = value_kept (blocker_tallies waiting) look row
node_value (node.Exists tally) look row = value_kept tally.memories look row
node_value (node.Fold fold) look row = value_kept fold.tally.memories look row

-- memories have something under the value
abbrev pub has_under : {S : Type 0} → Memories S → Value → Bool
has_under m value = is_some (bucket_at same_value m.left value)

-- and the node
abbrev pub node_has_under : Node → Value → Bool
node_has_under (node.Join join) value = has_under join.memories value
node_has_under (node.Not waiting) value = has_under (blocker_tallies waiting) value
node_has_under (node.Exists tally) value = has_under tally.memories value
node_has_under (node.Fold fold) value = has_under fold.tally.memories value

-- memories keep the row under the value
abbrev pub stands_under : {S : Type 0} → Memories S → Value → Row → Bool
stands_under m value row = is_some (at same_value row_cmp m.left value row)

-- and the node
abbrev pub node_keeps_under : Node → Value → Row → Bool
node_keeps_under (node.Join join) value row = stands_under join.memories value row
node_keeps_under (node.Not waiting) value row = stands_under (blocker_tallies waiting) value row
node_keeps_under (node.Exists tally) value row = stands_under tally.memories value row
node_keeps_under (node.Fold fold) value row = stands_under fold.tally.memories value row
