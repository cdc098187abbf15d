use Rattle.rule_model.{proofs.Common.{arith, ints, clamps}, specs.Snapshots.{floor}}
use Rattle.rule_model.proofs.moment.Moment.floor.Goals as goal

pub returns : goal.returns
unfolding floor
returns c = omega (arith, ints, clamps, c.max.ensures.value, c.max-known.ensures.value, c.from.ensures, c.from-2.ensures, c.from-3.ensures, c.lateness.ensures, c.last_start.ensures, c.promise.ensures)
