-- What the memories of any node stand for after a step, and after forgetting.
use Rattle.std.specs.Prelude.{◌≡◌, ◌&&◌, not, true, Bool, List}
use Rattle.row_delta.specs.{declared.{row.{Named.{Named}, Row.{Row}}, delta.Delta.{Delta}}, Rows.{has}}
use Rattle.row_change.specs.Changes.{LeadsRows}
use Rattle.join_tests.specs.Joins.{Look}
use Rattle.join_memory.specs.{declared.memories.Memories.{Memories}, Memories.{has_left, has_right, KeepsMemories}, Standing.{clean, cleaned, either}}
use Rattle.join_memory.specs.{Standing.{remembered, StandsFor}, Inputs.{IsNameDifference, IsStepped}}

-- Memories that stand for rows and candidates stand for the new ones after a step that is given the true differences, of what names no
-- forgotten fact.
abbrev pub StepsLaw : Type 0 → Type 0
StepsLaw S = (m n : Memories S) (look : Look) (rows rows_now : Row → Bool) (names names_now forgotten : Named → Bool) (left right : Delta)
    → StandsFor m look rows names forgotten
    → LeadsRows (cleaned rows forgotten) (cleaned rows_now forgotten) left.gone left.come → IsNameDifference (remembered names forgotten) (remembered names_now forgotten) right
    → IsStepped m n look left right → StandsFor n look rows_now names_now forgotten

-- After old candidates are dropped, and the left rows that name an old fact, the memories stand for the same rows and candidates with the
-- old facts forgotten too.
abbrev pub ForgetsLaw : Type 0 → Type 0
ForgetsLaw S = (m n : Memories S) (look : Look) (rows : Row → Bool) (names forgotten old : Named → Bool) (dropped : List Row)
    → StandsFor m look rows names forgotten → ((row : Row) → cleaned rows forgotten row ≡ true → has dropped row ≡ not (clean old row))
    → KeepsMemories m n look (λ row. has_left m look row && not (has dropped row)) (λ who. has_right m look who && not (old who))
    → StandsFor n look rows names (either forgotten old)
