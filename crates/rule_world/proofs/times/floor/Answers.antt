use Rattle.rule_world.{proofs.Common.{arith, ints, clamps}, specs.Events.{most_millis}}
use Rattle.rule_world.proofs.times.floor.Goals as goal

pub returns-clause-floor : goal.returns-clause-floor
unfolding most_millis
returns-clause-floor c = omega (arith, ints, clamps, c.max-2.ensures.value, c.max.ensures.value, c.lateness.ensures.lateness, c.lateness.ensures.low, c.lateness.ensures.high)

pub returns-clause-low : goal.returns-clause-low
unfolding most_millis
returns-clause-low c = omega (arith, ints, clamps, c.max-2.ensures.value, c.max.ensures.value, c.lateness.ensures.low, c.lateness.ensures.high)
