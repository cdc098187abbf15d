-- The left rows of several nodes, kept once, and the candidates of one of them.
use Rattle.std.specs.{Prelude.{◌≡◌, ◌&&◌, ◌||◌, not, Bool, List}, Option.{is_some}}
use Rattle.fx_base.specs.Values.{same_value}
use Rattle.row_delta.specs.{declared.row.{Named.{Named}, Row.{Row}}, Rows.{row_cmp, has}}
use Rattle.alpha_memory.specs.JoinIndex.{at}
use Rattle.join_tests.specs.{Joins.{Look}, RowKeys.{row_key, value_by}}
use Rattle.join_memory.specs.{declared.{candidates.Candidates.{Candidates}, left_rows.LeftRows.{LeftRows}, memories.Memories.{Memories}}, Joined.{has_name}}
use Rattle.join_memory.specs.Memories.{name_kept, has_left, has_right, KeepsMemories}

-- the row is kept
abbrev pub has_row : LeftRows → Look → Row → Bool
has_row left look row = is_some (at same_value row_cmp left.rows (value_by left.key look row) row)

-- the candidate is kept
abbrev pub has_candidate : Candidates → Look → Named → Bool
has_candidate c look who = name_kept c.pattern c.names look who

-- the two memories of a node that has these left rows and these candidates
abbrev pub beside : LeftRows → Candidates → Memories (Unit {0})
beside left c = record { pattern = c.pattern; left = left.rows; right = c.names }

-- the pattern of the candidates looks for rows where they are kept
abbrev pub LooksWhereKept : LeftRows → Candidates → Type 0
LooksWhereKept left c = row_key c.pattern ≡ left.key

-- the left rows after these went: to each node that has them
abbrev pub RowsLeave : LeftRows → LeftRows → Look → List Row → Type 0
RowsLeave before after look rows = (c : Candidates) → LooksWhereKept before c
    → KeepsMemories (beside before c) (beside after c) look (λ r. has_left (beside before c) look r && not (has rows r)) (has_right (beside before c) look)

-- and after they came
abbrev pub RowsCome : LeftRows → LeftRows → Look → List Row → Type 0
RowsCome before after look rows = (c : Candidates) → LooksWhereKept before c
    → KeepsMemories (beside before c) (beside after c) look (λ r. has_left (beside before c) look r || has rows r) (has_right (beside before c) look)

-- the candidates after these went: beside any left rows
abbrev pub NamesLeave : Candidates → Candidates → Look → List Named → Type 0
NamesLeave before after look names = (left : LeftRows)
    → KeepsMemories (beside left before) (beside left after) look (has_left (beside left before) look) (λ c. has_right (beside left before) look c && not (has_name names c))

-- and after they came
abbrev pub NamesCome : Candidates → Candidates → Look → List Named → Type 0
NamesCome before after look names = (left : LeftRows)
    → KeepsMemories (beside left before) (beside left after) look (has_left (beside left before) look) (λ c. has_right (beside left before) look c || has_name names c)
