-- The parts of nodes that share the rows before them, as other crates name them.
use Rattle.join_tests.specs.declared.row_key.RowKey.{RowKey}
use Rattle.fan_join.specs.declared.fan.FanJoin.{FanJoin}

-- by what the rows are kept that they share
abbrev pub shared_key : FanJoin → RowKey
shared_key fan = fan.left.key
