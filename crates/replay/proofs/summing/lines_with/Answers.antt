use Rattle.replay.proofs.Counted.{last_line}
use Rattle.replay.proofs.summing.lines_with.Goals as goal

pub returns : goal.returns
returns c = last_line c.args.front.now c.loop-rest.rest.now c.loop-rest.count _ c.loop-rest-test.ensures c.loop-rest.invariant.so_far
