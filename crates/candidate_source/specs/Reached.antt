-- Under which values of rows the nodes in which places are found.
use Rattle.std.specs.{Prelude.{◌≡◌, ℕ, Bool, true, false, List, Option, Some, None}, List.{list_any}, Option.{is_some}, Ordering.{eq_by_cmp, nat_cmp}}
use Rattle.fx_base.specs.{declared.value.Value.{Value}, Values.{same_value}}
use Rattle.row_delta.specs.{declared.row.Row.{Row}, Rows.{row_cmp}}
use Rattle.alpha_memory.specs.{declared.join_index.JoinIndex.{JoinIndex}, JoinIndex.{at}}
use Rattle.join_tests.specs.{declared.sought.Sight.{Sight}, Joins.{Look}, Kept.{row_value, values_seen}}
use Rattle.join_memory.specs.{declared.memories.Memories.{Memories}, Memories.{has_left}}

-- whether a place is in a list
abbrev pub has_place : List ℕ → ℕ → Bool
has_place places k = list_any (eq_by_cmp nat_cmp k) places

-- the node in a place is found under a value
abbrev pub is_under : JoinIndex Value ℕ (Unit {0}) → Value → ℕ → Bool
is_under reached value k = is_some (at same_value nat_cmp reached value k)

-- it is found under the value, where one is given
abbrev pub is_under_given : JoinIndex Value ℕ (Unit {0}) → Option Value → ℕ → Bool
is_under_given reached None k = false
is_under_given reached (Some value) k = is_under reached value k

-- it is found under one of these values
abbrev pub is_under_one : JoinIndex Value ℕ (Unit {0}) → List Value → ℕ → Bool
is_under_one reached values k = list_any (λ value. is_under reached value k) values

-- it is found under one of those that are sought, where there is a sight
abbrev pub is_sought : JoinIndex Value ℕ (Unit {0}) → Option Sight → ℕ → Bool
is_sought reached None k = false
is_sought reached (Some sight) k = is_under_one reached (values_seen sight) k

-- it is found under each value under which it keeps a left row
abbrev pub IsReached : {S : Type 0} → JoinIndex Value ℕ (Unit {0}) → ℕ → Memories S → Type 0
IsReached reached k m = (value : Value) (row : Row) → is_some (at same_value row_cmp m.left value row) ≡ true → is_under reached value k ≡ true

-- it is found under the value of each left row that it has by these facts
abbrev pub FindsLeft : {S : Type 0} → JoinIndex Value ℕ (Unit {0}) → ℕ → Memories S → Look → Type 0
FindsLeft reached k m look = (row : Row) → has_left m look row ≡ true → is_under reached (row_value m.pattern look row) k ≡ true

-- under no value
abbrev pub IsUnreached : JoinIndex Value ℕ (Unit {0}) → ℕ → Type 0
IsUnreached reached k = (value : Value) → is_under reached value k ≡ false
