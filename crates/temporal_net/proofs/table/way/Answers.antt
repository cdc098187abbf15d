use Rattle.temporal_net.proofs.Common.{[], append-nil}
use Rattle.temporal_net.proofs.table.way.Goals as goal

pub returns : goal.returns
returns c = rw (append-nil c.loop-at.numbers.items) at (c.loop-at.invariant.so_far [] c.loop-at-test.false)
