use Rattle.temporal_ops.proofs.{Common.{arith}, Fields.{exchanged_more, exchanged_front}}
use Rattle.temporal_ops.proofs.op.Op.exchanged.Goals as goal

pub loop-item-preserved : goal.loop-item-preserved
loop-item-preserved c = rw c.exchanged.ensures (exchanged_more _ _ _ _ c.loop-item-test.true c.loop-item.invariant)

pub new-requires : goal.new-requires
new-requires c =
    exchanged_front c.self.inside.edges.items _ c.self.inside.edges.count _ c.loop-item-test.false c.loop-item.invariant
    (omega (arith, c.self.invariant.size, c.self.invariant.count)) c.self.invariant.op
