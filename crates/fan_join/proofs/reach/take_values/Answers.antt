use Rattle.fan_join.proofs.reach.take_values.Goals as goal

pub loop-who-preserved : goal.loop-who-preserved
loop-who-preserved g c value k held was = c.take_value.ensures value k held (c.loop-who.invariant value k held was)
