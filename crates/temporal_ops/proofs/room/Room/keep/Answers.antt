use Rattle.temporal_ops.{proofs.{Common.{refl, edge_holds}, Rooms.{one_more}}, specs.Edges.{edges_hold}}
use Rattle.temporal_ops.proofs.room.Room.keep.Goals as goal

pub loop-edge-preserved : goal.loop-edge-preserved
unfolding edges_hold
loop-edge-preserved c = λ y.
    one_more (edge_holds y c.args.b) c.as_slice-edge-items.result.now _ _ _ c.loop-edge-test.true refl _ _ _
    (c.loop-edge.invariant y) (c.keep_edge.ensures y)
