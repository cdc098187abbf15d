use Rattle.temporal_ops.proofs.Fields.{stored_front}
use Rattle.temporal_ops.proofs.op.Op.new.Goals as goal

pub invariant_of-result : goal.invariant_of-result
invariant_of-result c = rw c.copy_from_slice.ensures.after (stored_front c.args.edges.now c.requires)
