-- Places in rows that are in order.
use Rattle.std.specs.{Prelude.{◌≡◌, ℕ, ◌<◌, ◌≤◌, List, length, slice_index_or}, declared.cmp.Ordering.TheVariants.{Less, Greater}}
use Rattle.std.specs.List.Sorted.{IsPartitionPoint}
use Rattle.row_delta.specs.{Rows.{row_cmp}, declared.row.Row.{Row}}

-- the row would go here: those before it are less, and those from here on greater
pub record IsGap (rows : List Row) (row : Row) (at : ℕ) : Type 0 where
  pub inside : at ≤ length rows
  pub parts : IsPartitionPoint (λ other. row_cmp other row ≡ Less) (λ other. row_cmp other row ≡ Greater) rows at

-- the row stands here
pub record StandsAt (rows : List Row) (row : Row) (at : ℕ) : Type 0 where
  pub inside : at < length rows
  pub is : (d : Row) → slice_index_or rows at d ≡ row
