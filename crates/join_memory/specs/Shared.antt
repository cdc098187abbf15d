-- Candidates that several nodes take alike, kept once: a node is shown with them in place of its own.
use Rattle.std.specs.{Prelude.{◌≡◌, ◌&&◌, ◌||◌, not, Bool, true, false, List, Option, Some, None}, Option.{is_some}}
use Rattle.fx_base.specs.{declared.value.Value.{Value}, Values.{same_value}}
use Rattle.row_delta.specs.{declared.{delta.Delta.{Delta}, row.{Named.{Named}, Row.{Row}}}, NameOrder.{name_cmp}, Rows.{has}}
use Rattle.rule_model.specs.declared.condition.Pattern.{Pattern}
use Rattle.alpha_memory.specs.{declared.join_index.JoinIndex.{JoinIndex}, JoinIndex.{at}}
use Rattle.join_tests.specs.{Joins.{Look, joins}, Kept.{candidate_value}, NameKeys.{name_key}}
use Rattle.join_memory.specs.{declared.{candidates.Candidates.{Candidates}, memories.Memories.{Memories}}, Apart.{has_candidate}, Inputs.{row_naming}}
use Rattle.join_memory.specs.{Joined.{has_name, AreDistinct}, Memories.{has_left, has_right}}

-- the memories of a node with these candidates in place of its own
abbrev pub sharing : {S : Type 0} → Memories S → Candidates → Memories S
sharing m shared = record { pattern = m.pattern; left = m.left; right = shared.names }

-- with these, where some are given, and else with its own
abbrev pub over : {S : Type 0} → Memories S → Option Candidates → Memories S
over m None = m
over m (Some shared) = sharing m shared

-- the node keeps candidates under the values under which these are kept, and seeks the same rows for them
abbrev pub KeepsAlike : {S : Type 0} → Memories S → Candidates → Type 0
KeepsAlike m shared = name_key m.pattern ≡ name_key shared.pattern

-- candidates in an index stand under the join values that a pattern gives them by these facts
abbrev pub NamesAgree : Pattern → JoinIndex Value Named (Unit {0}) → Look → Type 0
NamesAgree p names look = (value : Value) (who : Named) → is_some (at same_value name_cmp names value who) ≡ true → same_value (candidate_value p look who) value ≡ true

-- after a change these candidates are kept, and still stand where they are looked up
pub record KeepsNames (before after : Candidates) (look : Look) (kept : Named → Bool) : Type 0 where
  pub pattern : after.pattern ≡ before.pattern
  pub names : (who : Named) → has_candidate after look who ≡ kept who
  pub agrees : NamesAgree before.pattern before.names look → NamesAgree after.pattern after.names look

-- Of the candidates that went and came, by their sets before and after, those are handed to a node, each once, that join one of its left
-- rows, and perhaps others.
pub record AreHanded {S : Type 0} (m : Memories S) (look : Look) (was is : Named → Bool) (gone come : List Named) : Type 0 where
  pub once_gone : AreDistinct gone
  pub once_come : AreDistinct come
  pub went : (who : Named) → has_name gone who ≡ true → (was who && not (is who)) ≡ true
  pub came : (who : Named) → has_name come who ≡ true → (is who && not (was who)) ≡ true
  pub left_out_gone : (who : Named) (row : Row) → (was who && not (is who)) ≡ true → has_name gone who ≡ false → has_left m look row ≡ true → joins m.pattern look row who ≡ false
  pub left_out_come : (who : Named) (row : Row) → (is who && not (was who)) ≡ true → has_name come who ≡ false → has_left m look row ≡ true → joins m.pattern look row who ≡ false

-- A node has taken over shared candidates that have turned: before they were these, a difference leads from them to those that it has now,
-- and of it these are handed. They stand where they are looked up, if they did before.
pub record TakesOver {S : Type 0} (m : Memories S) (before : Candidates) (look : Look) (right : Delta) (leaving coming : List Named) : Type 0 where
  pub handed : AreHanded m look (has_right (sharing m before) look) (has_right m look) leaving coming
  pub names : (who : Named) → has_right m look who ≡ ((has_right (sharing m before) look who && not (has right.gone (row_naming who))) || has right.come (row_naming who))
  pub gone : (who : Named) → has_name leaving who ≡ true → has right.gone (row_naming who) ≡ true
  pub come : (who : Named) → has_name coming who ≡ true → has right.come (row_naming who) ≡ true
  pub agrees : NamesAgree m.pattern before.names look → NamesAgree m.pattern m.right look

-- A node has taken over shared candidates of which old ones were dropped: before they were these, and of the old ones these are handed.
pub record ForgoesOld {S : Type 0} (m : Memories S) (before : Candidates) (look : Look) (old : Named → Bool) (gone : List Named) : Type 0 where
  pub once : AreDistinct gone
  pub names : (who : Named) → has_right m look who ≡ (has_right (sharing m before) look who && not (old who))
  pub went : (who : Named) → has_name gone who ≡ true → (has_right (sharing m before) look who && old who) ≡ true
  pub left_out : (who : Named) (row : Row) → (has_right (sharing m before) look who && old who) ≡ true → has_name gone who ≡ false → has_left m look row ≡ true → joins m.pattern look row who ≡ false
  pub agrees : NamesAgree m.pattern before.names look → NamesAgree m.pattern m.right look
