-- What of a pattern decides under which value a row is kept.
use Rattle.std.specs.{Prelude.{List, map, Option, Some, None}, Option.{option_map}}
use Rattle.fx_base.specs.declared.value.Value.{Value}
use Rattle.row_delta.specs.declared.row.Row.{Row}
use Rattle.rule_model.specs.{declared.condition.Pattern.{Pattern}, Lent.{bound_in}}
use Rattle.join_tests.specs.declared.{key.{JoinSide.{JoinSide}, JoinKey.{JoinKey}}, row_key.{RowKey.{RowKey}, RowTime.{RowTime}}, time_key.TimeKey.{TimeKey}}
use Rattle.join_tests.specs.{Joins.{Look}, Keys.{join_keys, earlier_value, given_or_true, as_one}, TimeKeys.{time_key}, Slots.{moment_at_point, slot_value}}
use Rattle.join_tests.specs.Kept.{with_slot}

-- the row's side of an equality
abbrev pub row_side_of : JoinKey → JoinSide
row_side_of key = key.side

-- the row's side of a range of time
abbrev pub row_time : TimeKey → RowTime
row_time key = record { fact = key.fact; event = key.event; span = key.span }

-- the row's side of the equalities of a pattern and of its range of time
abbrev pub row_key : Pattern → RowKey
row_key p = record { sides = map row_side_of (join_keys p); time = option_map row_time (time_key p) }

-- what a row has of a side
abbrev pub side_part : Look → Row → JoinSide → Value
side_part look row side = given_or_true (earlier_value (bound_in look row) side)

abbrev pub kept_by_time : List Value → Option RowTime → Look → Row → Value
kept_by_time values None look row = as_one values
kept_by_time values (Some time) look row = with_slot values (slot_value time.span (moment_at_point time.event ((bound_in look row).fact time.fact)))

-- the value under which the patterns of this key keep a row
abbrev pub value_by : RowKey → Look → Row → Value
value_by key look row = kept_by_time (map (side_part look row) key.sides) key.time look row
