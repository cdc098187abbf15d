-- The table of the thirteen operators: what each word with its parameters says of the tested event a and
-- the bound event b. The words are those of the Drools Fusion 5 User Guide; the rows with parameters are
-- this project's own.
use Rattle.std.specs.{Prelude.{◌≡◌, ℤ, pos, Bool, true, false, ◌-ℤ◌, ◌≤ℤ◌, ◌<ℤ◌, List, [], ◌∷◌}, Int.{int_max, int_min}}
use Rattle.fx_base.specs.declared.times.Times.{Times}
use Rattle.temporal_ops.specs.declared.word.OpWord.{OpWord, TheVariants.{After, Before, Coincides, During, Includes, Finishes, FinishedBy, Starts, StartedBy}}
use Rattle.temporal_ops.specs.declared.word.OpWord.TheVariants.{Meets, MetBy, Overlaps, OverlappedBy}

-- what a word says of a and b, or that the table has no row for that many parameters
pub data Row : Type 1 where
  says : (Times → Times → Type 0) → Row
  no_row : Row

abbrev pub IsInRange : ℤ → ℤ → ℤ → Type 0
IsInRange low z high = (low ≤ℤ z) × (z ≤ℤ high)

-- x and y are at most this far apart
abbrev pub AreNear : ℤ → ℤ → ℤ → Type 0
AreNear x y most = ((x -ℤ y) ≤ℤ most) × ((y -ℤ x) ≤ℤ most)

-- the row with a and b exchanged
abbrev pub exchanged : Row → Row
exchanged (says meaning) = says (λ a b. meaning b a)
exchanged no_row = no_row

abbrev pub during : List ℤ → Row
during [] = says (λ a b. (b.start <ℤ a.start) × (a.end <ℤ b.end))
during (most ∷ []) = says (λ a b.
    (pos 0 <ℤ (a.start -ℤ b.start)) × ((a.start -ℤ b.start) ≤ℤ most)
    × (pos 0 <ℤ (b.end -ℤ a.end)) × ((b.end -ℤ a.end) ≤ℤ most))
during (least ∷ most ∷ []) = says (λ a b.
    IsInRange least (a.start -ℤ b.start) most × IsInRange least (b.end -ℤ a.end) most)
during (least ∷ most ∷ end_least ∷ end_most ∷ []) = says (λ a b.
    IsInRange least (a.start -ℤ b.start) most × IsInRange end_least (b.end -ℤ a.end) end_most)
during _ = no_row

abbrev pub Overlap : Times → Times → Type 0
Overlap a b = (a.start <ℤ b.start) × (b.start <ℤ a.end) × (a.end <ℤ b.end)

abbrev pub overlaps : List ℤ → Row
overlaps [] = says Overlap
overlaps (most ∷ []) = says (λ a b. Overlap a b × IsInRange (pos 0) (a.end -ℤ b.start) most)
overlaps (least ∷ most ∷ []) = says (λ a b. Overlap a b × IsInRange least (a.end -ℤ b.start) most)
overlaps _ = no_row

-- the row of this word for these parameters, where the table has one
abbrev pub table_row_of : OpWord → List ℤ → Row
table_row_of After [] = says (λ a b. pos 1 ≤ℤ (a.start -ℤ b.end))
table_row_of After (least ∷ []) = says (λ a b. least ≤ℤ (a.start -ℤ b.end))
table_row_of After (x ∷ y ∷ []) = says (λ a b. IsInRange (int_min x y) (a.start -ℤ b.end) (int_max x y))
table_row_of Before [] = says (λ a b. pos 1 ≤ℤ (b.start -ℤ a.end))
table_row_of Before (least ∷ []) = says (λ a b. least ≤ℤ (b.start -ℤ a.end))
table_row_of Before (x ∷ y ∷ []) = says (λ a b. IsInRange (int_min x y) (b.start -ℤ a.end) (int_max x y))
table_row_of Coincides [] = says (λ a b. (a.start ≡ b.start) × (a.end ≡ b.end))
table_row_of Coincides (most ∷ []) = says (λ a b. AreNear a.start b.start most × AreNear a.end b.end most)
table_row_of Coincides (most ∷ end_most ∷ []) = says (λ a b. AreNear a.start b.start most × AreNear a.end b.end end_most)
table_row_of During params = during params
table_row_of Includes params = exchanged (during params)
table_row_of Finishes [] = says (λ a b. (b.start <ℤ a.start) × (a.end ≡ b.end))
table_row_of Finishes (most ∷ []) = says (λ a b. (b.start <ℤ a.start) × AreNear a.end b.end most)
table_row_of FinishedBy [] = says (λ a b. (a.start <ℤ b.start) × (a.end ≡ b.end))
table_row_of FinishedBy (most ∷ []) = says (λ a b. (a.start <ℤ b.start) × AreNear a.end b.end most)
table_row_of Starts [] = says (λ a b. (a.start ≡ b.start) × (a.end <ℤ b.end))
table_row_of Starts (most ∷ []) = says (λ a b. AreNear a.start b.start most × (a.end <ℤ b.end))
table_row_of StartedBy [] = says (λ a b. (a.start ≡ b.start) × (b.end <ℤ a.end))
table_row_of StartedBy (most ∷ []) = says (λ a b. AreNear a.start b.start most × (b.end <ℤ a.end))
table_row_of Meets [] = says (λ a b. a.end ≡ b.start)
table_row_of Meets (most ∷ []) = says (λ a b. AreNear b.start a.end most)
table_row_of MetBy [] = says (λ a b. a.start ≡ b.end)
table_row_of MetBy (most ∷ []) = says (λ a b. AreNear a.start b.end most)
table_row_of Overlaps params = overlaps params
table_row_of OverlappedBy params = exchanged (overlaps params)
table_row_of _ _ = no_row

abbrev pub HasRow : Row → Type 0
HasRow (says meaning) = Unit {0}
HasRow no_row = ⊥

-- the words whose parameters may be below 0
abbrev pub takes_negative : OpWord → Bool
takes_negative After = true
takes_negative Before = true
takes_negative _ = false
