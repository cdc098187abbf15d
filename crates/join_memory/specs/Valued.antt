-- Rows with one value more, and what a test says of them, where sets are tests.
use Rattle.std.specs.{Prelude.{Bool, false, ℤ, List, [], ◌∷◌, ◌++◌, Option, Some, None}, Option.{option_map}, Ordering.{int_eq}}
use Rattle.row_delta.specs.declared.row.Row.{Row}
use Rattle.join_memory.specs.Joined.{split_last}

-- a row with one value more
abbrev pub with_row_value : Row → ℤ → Row
with_row_value row v = record { facts = row.facts; values = row.values ++ v ∷ [] }

-- the row of the front of its values, and the last one
abbrev pub value_front : Row → (List ℤ × ℤ) → Row × ℤ
value_front row p = (record { facts = row.facts; values = p.0 }, p.1)

-- a row as the row without its last value, and that value
abbrev pub unvalued : Row → Option (Row × ℤ)
unvalued row = option_map (value_front row) (split_last row.values)

-- whether a test holds of a row and its last value
abbrev pub splits_value : (Row → ℤ → Bool) → Option (Row × ℤ) → Bool
splits_value test None = false
splits_value test (Some p) = test p.0 p.1

-- the test holds of the row without its last value, and that value
unfoldable pub valued : (Row → ℤ → Bool) → Row → Bool
valued test row = splits_value test (unvalued row)

-- a row without its last value; none where it has no value
abbrev pub without_value : Row → Option Row
without_value row = option_map (λ (p : Row × ℤ). p.0) (unvalued row)

-- the last value of the row is this one
abbrev pub shows_value : ℤ → Row → Bool
shows_value v row = splits_value (λ left last. int_eq v last) (unvalued row)
