-- A set of rows as a list or as a tree.
use Rattle.std.specs.Prelude.{List}
use Rattle.row_delta.specs.{Rows.{InOrder}, declared.row.Row.{Row}}
use Rattle.row_change.specs.declared.row_set.Form.{Form, TheVariants.{Listed, Tree}}

-- the rows of a set, in order
pub record Kept : Type 0 where
  pub keys : List Row

-- the rows of either form
abbrev pub form_rows : Form → List Row
form_rows (Listed rows) = rows.items
form_rows (Tree rows) = rows.keys

-- a list is kept in order; a tree keeps itself so
abbrev pub IsFormKept : Form → Type 0
IsFormKept (Listed rows) = InOrder rows.items
IsFormKept (Tree rows) = Unit {0}
