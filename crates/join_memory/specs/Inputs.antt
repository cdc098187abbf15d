-- What a step gives a node: what changes in the rows of the conditions before it, and in its candidates, each named by a row of its own.
use Rattle.std.specs.Prelude.{◌≡◌, ◌&&◌, ◌||◌, not, Bool, Option, Some, None, List, [], ◌∷◌, ℤ}
use Rattle.row_delta.specs.{declared.{row.{Named.{Named}, Row.{Row}}, delta.Delta.{Delta}}, Rows.{has}}
use Rattle.join_tests.specs.Joins.{Look}
use Rattle.join_memory.specs.{declared.memories.Memories.{Memories}, Memories.{has_left, has_right, KeepsMemories}}

-- the row that names a candidate alone
abbrev pub row_naming : Named → Row
row_naming who = record { facts = who ∷ []; values = [] }

-- the candidate that facts and values name alone
abbrev pub named_alone : List Named → List ℤ → Option Named
named_alone [] values = None
named_alone (who ∷ []) [] = Some who
named_alone (who ∷ []) (value ∷ values) = None
named_alone (who ∷ (other ∷ more)) values = None

-- the difference of two sets of candidates, each named by a row of its own
pub record IsNameDifference (old new : Named → Bool) (delta : Delta) : Type 0 where
  pub goes : (who : Named) → has delta.gone (row_naming who) ≡ (old who && not (new who))
  pub comes : (who : Named) → has delta.come (row_naming who) ≡ (new who && not (old who))

-- the memories after a step: the left rows and the candidates without those that went and with those that came
abbrev pub IsStepped : {S : Type 0} → Memories S → Memories S → Look → Delta → Delta → Type 0
IsStepped before after look left right = KeepsMemories before after look
    (λ row. (has_left before look row && not (has left.gone row)) || has left.come row)
    (λ who. (has_right before look who && not (has right.gone (row_naming who))) || has right.come (row_naming who))
