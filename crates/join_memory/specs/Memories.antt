-- What the two memories of a node keep.
use Rattle.std.specs.{Prelude.{◌≡◌, Bool, true, Option}, Option.{is_some}}
use Rattle.fx_base.specs.{declared.value.Value.{Value}, Values.{same_value}}
use Rattle.row_delta.specs.{declared.row.{Named.{Named}, Row.{Row}}, Rows.{row_cmp}, NameOrder.{name_cmp}}
use Rattle.rule_model.specs.declared.condition.Pattern.{Pattern}
use Rattle.alpha_memory.specs.{declared.join_index.JoinIndex.{JoinIndex}, JoinIndex.{at}}
use Rattle.join_tests.specs.{Joins.{Look, joins}, Kept.{row_value, candidate_value}}
use Rattle.join_memory.specs.{Joined.{joined}, declared.memories.Memories.{Memories}}

-- the row is kept in an index under the join value that it has for a pattern, by these facts
abbrev pub row_kept : {S : Type 0} → Pattern → JoinIndex Value Row S → Look → Row → Bool
row_kept p index look row = is_some (at same_value row_cmp index (row_value p look row) row)

-- so is the candidate
abbrev pub name_kept : Pattern → JoinIndex Value Named (Unit {0}) → Look → Named → Bool
name_kept p index look who = is_some (at same_value name_cmp index (candidate_value p look who) who)

-- what is kept beside a left row, looked up under the join value that the row has by these facts
abbrev pub left_at : {S : Type 0} → Memories S → Look → Row → Option S
left_at m look row = at same_value row_cmp m.left (row_value m.pattern look row) row

-- the left row is kept
abbrev pub has_left : {S : Type 0} → Memories S → Look → Row → Bool
has_left m look row = is_some (left_at m look row)

-- the candidate is kept
abbrev pub has_right : {S : Type 0} → Memories S → Look → Named → Bool
has_right m look who = is_some (at same_value name_cmp m.right (candidate_value m.pattern look who) who)

-- what is kept stands under the join value that it has by these facts
pub record Agrees {S : Type 0} (m : Memories S) (look : Look) : Type 0 where
  pub rows : (value : Value) (row : Row) → is_some (at same_value row_cmp m.left value row) ≡ true → same_value (row_value m.pattern look row) value ≡ true
  pub names : (value : Value) (who : Named) → is_some (at same_value name_cmp m.right value who) ≡ true → same_value (candidate_value m.pattern look who) value ≡ true

-- the rows that the pattern makes of what is kept
abbrev pub made : {S : Type 0} → Memories S → Look → Row → Bool
made m look = joined (joins m.pattern look) (has_left m look) (has_right m look)

-- after a change of the memories these rows and these candidates are kept, and still stand where they are looked up
pub record KeepsMemories {S : Type 0} (before after : Memories S) (look : Look) (left : Row → Bool) (right : Named → Bool) : Type 0 where
  pub pattern : after.pattern ≡ before.pattern
  pub rows : (row : Row) → has_left after look row ≡ left row
  pub names : (who : Named) → has_right after look who ≡ right who
  pub agrees : Agrees before look → Agrees after look
