-- What leads from one set of rows to another, where a set is a test of rows.
use Rattle.std.specs.Prelude.{◌≡◌, ◌&&◌, ◌||◌, not, Bool, true, false, List, [], ◌∷◌}
use Rattle.row_delta.specs.{Rows.{has, InOrder}, declared.{row.Row.{Row}, delta.Delta.{Delta}}}

-- the rows that went from the old ones are these, and those that came to them are those
pub record LeadsRows (old now : Row → Bool) (gone come : List Row) : Type 0 where
  pub goes : (row : Row) → has gone row ≡ (old row && not (now row))
  pub comes : (row : Row) → has come row ≡ (now row && not (old row))

-- the difference of two sets of rows: the old rows that are not new, and the new ones that are not old, each list in order
pub record IsDifference (old new : Row → Bool) (delta : Delta) : Type 0 where
  pub gone_in_order : InOrder delta.gone
  pub come_in_order : InOrder delta.come
  pub leads : LeadsRows old new delta.gone delta.come

-- the rows of a set that are none of these
abbrev pub without : (Row → Bool) → List Row → Row → Bool
without rows taken row = rows row && not (has taken row)

-- the rows of a set, and these
abbrev pub along : (Row → Bool) → List Row → Row → Bool
along rows put row = rows row || has put row

abbrev pub are_none : List Row → List Row → Bool
are_none [] [] = true
are_none (row ∷ gone) come = false
are_none [] (row ∷ come) = false

-- nothing goes and nothing comes
abbrev pub changes_nothing : Delta → Bool
changes_nothing delta = are_none delta.gone delta.come
