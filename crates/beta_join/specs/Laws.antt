-- What a step and forgetting are for the whole sets of rows and candidates that a node stands for.
use Rattle.std.specs.Prelude.{◌≡◌, ◌&&◌, not, true, Bool, List}
use Rattle.row_delta.specs.{declared.{row.{Named.{Named}, Row.{Row}}, delta.Delta.{Delta}}, Rows.{has}}
use Rattle.row_change.specs.Changes.{LeadsRows, IsDifference}
use Rattle.join_tests.specs.Joins.{Look}
use Rattle.join_memory.specs.{declared.memories.Memories.{Memories}, Joined.{joined}, Memories.{has_left, has_right, made, KeepsMemories}, Standing.{clean}}
use Rattle.join_memory.specs.{Standing.{cleaned, either, remembered, PassesAlike, StandsFor}, Inputs.{IsNameDifference, IsStepped}}

-- For the true differences of its two inputs, of what names no forgotten fact, a node that stands for left rows and candidates answers
-- the true difference of its rows that name no forgotten fact, and stands for the new ones.
abbrev pub JoinStepLaw : Type 0 → Type 0
JoinStepLaw S = (m n : Memories S) (look : Look) (pass : Row → Named → Bool) (rows rows_now : Row → Bool) (names names_now : Named → Bool) (forgotten : Named → Bool) (left right delta : Delta)
    → StandsFor m look rows names forgotten → PassesAlike m.pattern look pass rows names forgotten → PassesAlike m.pattern look pass rows_now names_now forgotten
    → LeadsRows (cleaned rows forgotten) (cleaned rows_now forgotten) left.gone left.come → IsNameDifference (remembered names forgotten) (remembered names_now forgotten) right
    → IsStepped m n look left right → IsDifference (made m look) (made n look) delta
    → StandsFor n look rows_now names_now forgotten × IsDifference (cleaned (joined pass rows names) forgotten) (cleaned (joined pass rows_now names_now) forgotten) delta

-- After its old candidates and the left rows that name an old fact are dropped, a node stands for the same rows and candidates with the
-- old facts forgotten too, and the rows that it dropped are those that name an old fact.
abbrev pub JoinForgetLaw : Type 0 → Type 0
JoinForgetLaw S = (m n : Memories S) (look : Look) (pass : Row → Named → Bool) (rows : Row → Bool) (names forgotten old : Named → Bool) (dropped gone : List Row)
    → StandsFor m look rows names forgotten → PassesAlike m.pattern look pass rows names forgotten
    → ((row : Row) → cleaned rows forgotten row ≡ true → has dropped row ≡ not (clean old row))
    → KeepsMemories m n look (λ row. has_left m look row && not (has dropped row)) (λ who. has_right m look who && not (old who))
    → ((row : Row) → has gone row ≡ (made m look row && not (made n look row)))
    → StandsFor n look rows names (either forgotten old) × ((row : Row) → cleaned (joined pass rows names) forgotten row ≡ true → has gone row ≡ not (clean old row))
