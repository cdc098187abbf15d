-- From which left row a row of a node comes, and which number it shows. Rows with a value more are those of the memories' crate.
use Rattle.std.specs.{Prelude.{Bool, true, false, Option, Some, None, ℤ}, Ordering.{eq_by_cmp}}
use Rattle.row_delta.specs.{declared.row.Row.{Row}, Rows.{row_cmp}}

-- the row comes from this left row
abbrev pub is_from : Option Row → Row → Bool
is_from None left = false
is_from (Some o) left = eq_by_cmp row_cmp left o

-- each row comes from itself
abbrev pub itself : Row → Option Row
itself row = Some row

-- it shows no number, so any may be given
abbrev pub shows_any : ℤ → Row → Bool
shows_any v row = true
