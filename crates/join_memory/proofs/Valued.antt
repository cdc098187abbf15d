-- Rows that are made by one value more.
use Rattle.join_memory.proofs.Common.{◌≡◌, ◌∙◌, ap, refl, ℤ, List, Bool, true, false, Option, Some, None, option_map, Row, split_last}
use Rattle.join_memory.{specs.Valued.{with_row_value, value_front, unvalued, splits_value, valued}, proofs.Lasts.{split_snoc, is_snoc}}

-- the row with these values in place of its own
abbrev pub row_valued : Row → List ℤ → Row
row_valued row values = record { facts = row.facts; values = values }

pub unvalued_with : (row : Row) (v : ℤ) → unvalued (with_row_value row v) ≡ Some (row, v)
unvalued_with row v = ap (option_map (value_front row)) (split_snoc row.values v)

unvalued_is : (row : Row) (o : Option (List ℤ × ℤ)) → split_last row.values ≡ o → (p : Row × ℤ) → option_map (value_front row) o ≡ Some p → row ≡ with_row_value p.0 p.1
unvalued_is row None s p e = cc
unvalued_is row (Some q) s p e =
    let h : value_front row q ≡ p = cc in
    ap (row_valued row) (is_snoc row.values q s) ∙ ap (λ p. with_row_value p.0 p.1) h

pub from_unvalued : (row : Row) (p : Row × ℤ) → unvalued row ≡ Some p → row ≡ with_row_value p.0 p.1
from_unvalued row p e = unvalued_is row (split_last row.values) refl p e

pub valued_with : (test : Row → ℤ → Bool) (row : Row) (v : ℤ) → valued test (with_row_value row v) ≡ test row v
unfolding valued
valued_with test row v = ap (splits_value test) (unvalued_with row v)

split_value : (test : Row → ℤ → Bool) (row : Row) (o : Option (Row × ℤ)) → unvalued row ≡ o → splits_value test o ≡ true → (left : Row) × (v : ℤ) × (row ≡ with_row_value left v) × (test left v ≡ true)
split_value test row None is e = let f : false ≡ true = e in cc
split_value test row (Some p) is e = (p.0, p.1, from_unvalued row p is, e)

pub valued_from : (test : Row → ℤ → Bool) (row : Row) → valued test row ≡ true → (left : Row) × (v : ℤ) × (row ≡ with_row_value left v) × (test left v ≡ true)
unfolding valued
valued_from test row e = split_value test row (unvalued row) refl e
