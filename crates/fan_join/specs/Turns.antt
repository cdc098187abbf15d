-- What a step does with the left rows that members share, and with the candidates of one member.
use Rattle.std.specs.Prelude.{◌≡◌, ◌&&◌, ◌||◌, not, Bool, List}
use Rattle.row_delta.specs.{declared.{delta.Delta.{Delta}, row.{Named.{Named}, Row.{Row}}}, Rows.{has}}
use Rattle.row_change.specs.Changes.{IsDifference}
use Rattle.join_tests.specs.Joins.{Look}
use Rattle.join_memory.specs.{declared.{candidates.Candidates.{Candidates}, left_rows.LeftRows.{LeftRows}}, Joined.{has_name}, Memories.{has_left, has_right}}
use Rattle.join_memory.specs.{Memories.{made, KeepsMemories}, Apart.{has_row, beside, LooksWhereKept, RowsLeave, RowsCome}}
use Rattle.fan_join.specs.declared.row_turn.RowTurn.{RowTurn}

-- Rows leave and then come: the left rows before, between and after; and it is known which of those that leave were there, and which of
-- those that come were not.
pub record AreRowsInTurn (before between after : LeftRows) (look : Look) (gone come : List Row) (turn : RowTurn) : Type 0 where
  pub key : between.key ≡ before.key
  pub key_now : after.key ≡ before.key
  pub leaves : RowsLeave before between look gone
  pub comes : RowsCome between after look come
  pub went : (row : Row) → has turn.went.items row ≡ (has gone row && has_row before look row)
  pub came : (row : Row) → has turn.came.items row ≡ (has come row && not (has_row between look row))

-- the difference that these left rows make with the candidates of a member
abbrev pub IsRowsDifference : RowTurn → Look → Candidates → Delta → Type 0
IsRowsDifference turn look c delta = (before between after : LeftRows) (gone come : List Row) → AreRowsInTurn before between after look gone come turn → LooksWhereKept before c
    → IsDifference (made (beside before c) look) (made (beside after c) look) delta

-- Candidates of a member leave and then come, and what had changed in its rows so far goes on by what changes with them.
pub record AreNamesTurned (left : LeftRows) (look : Look) (gone come : List Named) (so_far : Delta) (old new : Candidates) (delta : Delta) : Type 0 where
  pub pattern : new.pattern ≡ old.pattern
  pub kept : KeepsMemories (beside left old) (beside left new) look (has_left (beside left old) look)
      (λ who. (has_right (beside left old) look who && not (has_name gone who)) || has_name come who)
  pub difference : (first : Row → Bool) → IsDifference first (made (beside left old) look) so_far → IsDifference first (made (beside left new) look) delta
