-- The left rows as a list.
use Rattle.join_memory.proofs.Common.{◌≡◌, ◌∙◌, ap, List, is_some, Value, equal_values, same_value, Row, row_cmp, has, at, Look, Memories, has_left, AreKeys}
use Rattle.{join_memory.proofs.Common.{row_value, true}, fx_base.proofs.Tests.{same_test}}

-- each row stands under its own join value
abbrev pub RowsAgree : {S : Type 0} → Memories S → Look → Type 0
RowsAgree m look = (value : Value) (row : Row) → is_some (at same_value row_cmp m.left value row) ≡ true → same_value (row_value m.pattern look row) value ≡ true

-- then the keys are the rows that are kept
pub keys_kept : {S : Type 0} (m : Memories S) (look : Look) (rows : List Row) → AreKeys same_value row_cmp m.left rows → RowsAgree m look → (row : Row) → has rows row ≡ has_left m look row
keys_kept m look rows keys agree row =
    same_test (has rows row) (has_left m look row)
    (λ e.
    let found = (keys row).0 e in
    ap (λ (value : Value). is_some (at same_value row_cmp m.left value row)) (equal_values _ _ (agree found.0 row found.1)) ∙ found.1)
    (λ e. (keys row).1 (_, e))
