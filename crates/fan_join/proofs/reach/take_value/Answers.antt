use Rattle.fan_join.proofs.Reaches.{under_left}
use Rattle.fan_join.proofs.reach.take_value.Goals as goal

pub returns : goal.returns
returns c = under_left c.args.reached.now c.take.new.self c.args.value.now c.args.place c.args.member.now.names (c.has_under.ensures.none c.if-has_under.false) c.take.ensures.kept
