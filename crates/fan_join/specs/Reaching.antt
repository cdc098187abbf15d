-- Which members the rows of a turn reach, and what those answer that are asked.
use Rattle.std.specs.{Prelude.{◌≡◌, ◌<◌, ◌⊎◌, ℕ, Bool, true, false, List, length, Some, None, slice_get}, BTreeMap.{BTreeMap, get}, List.{list_any}}
use Rattle.std.specs.{Option.{is_some}, Ordering.{nat_cmp, eq_by_cmp}}
use Rattle.fx_base.specs.{declared.value.Value.{Value}, Values.{same_value}}
use Rattle.row_delta.specs.{declared.{delta.Delta.{Delta}, row.Row.{Row}}, Rows.{has}}
use Rattle.alpha_memory.specs.{declared.join_index.JoinIndex.{JoinIndex}, JoinIndex.{at}}
use Rattle.join_tests.specs.{declared.row_key.RowKey.{RowKey}, Joins.{Look}, RowKeys.{value_by}}
use Rattle.join_memory.specs.declared.candidates.Candidates.{Candidates}
use Rattle.fan_join.specs.{declared.{fan.FanJoin.{FanJoin}, row_turn.RowTurn.{RowTurn}}, Fans.{nothing}, Turns.{IsRowsDifference}, Doors.{shared_key}}

-- whether a place is in a set
abbrev pub has_place : List ℕ → ℕ → Bool
has_place places k = list_any (eq_by_cmp nat_cmp k) places

-- whether the member in a place is found under a value
abbrev pub is_member_under : JoinIndex Value ℕ (Unit {0}) → Value → ℕ → Bool
is_member_under reached value k = is_some (at same_value nat_cmp reached value k)

-- the members that are found under the values of these rows are in these places
abbrev pub AreAmong : RowKey → JoinIndex Value ℕ (Unit {0}) → Look → List Row → List ℕ → Type 0
AreAmong key reached look rows places = (row : Row) (k : ℕ) → has rows row ≡ true → is_member_under reached (value_by key look row) k ≡ true → has_place places k ≡ true

-- The members to ask of a turn are in these places: all of them, where there is a range of time, and else those that its rows reach.
pub record AreAsked (fan : FanJoin) (look : Look) (turn : RowTurn) (places : List ℕ) : Type 0 where
  pub all : is_some (shared_key fan).time ≡ true → (k : ℕ) → k < length fan.members.items → has_place places k ≡ true
  pub went : is_some (shared_key fan).time ≡ false → AreAmong (shared_key fan) fan.reached look turn.went.items places
  pub came : is_some (shared_key fan).time ≡ false → AreAmong (shared_key fan) fan.reached look turn.came.items places

-- what is kept of members are the differences of their rows
pub record AreKept (turn : RowTurn) (look : Look) (members : List Candidates) (deltas : BTreeMap ℕ Delta) : Type 0 where
  pub within : (k : ℕ) (delta : Delta) → get nat_cmp deltas k ≡ Some delta → k < length members
  pub each : (k : ℕ) (c : Candidates) (delta : Delta) → slice_get members k ≡ Some c → get nat_cmp deltas k ≡ Some delta → IsRowsDifference turn look c delta

-- a difference is kept of the member in a place, unless it is empty
pub record IsDifferencePut (place : ℕ) (delta : Delta) (old new : BTreeMap ℕ Delta) : Type 0 where
  pub each : (k : ℕ) (d : Delta) → get nat_cmp new k ≡ Some d → (get nat_cmp old k ≡ Some d) ⊎ ((k ≡ place) × (delta ≡ d))
  pub stays : (k : ℕ) → get nat_cmp new k ≡ None → get nat_cmp old k ≡ None
  pub here : get nat_cmp new place ≡ None → delta ≡ nothing

-- and those of which nothing is kept have none, if they were asked
pub record AreDifferences (turn : RowTurn) (look : Look) (members : List Candidates) (places : List ℕ) (deltas : BTreeMap ℕ Delta) : Type 0 where
  pub kept : AreKept turn look members deltas
  pub unkept : (k : ℕ) (c : Candidates) → slice_get members k ≡ Some c → has_place places k ≡ true → get nat_cmp deltas k ≡ None → IsRowsDifference turn look c nothing
