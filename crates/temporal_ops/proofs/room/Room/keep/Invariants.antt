use Rattle.temporal_ops.proofs.Common.{◌≡◌, ◌↔◌, true, take, Times, edges_hold, FitsRoom}
use Rattle.temporal_ops.proofs.room.Room.keep.Given as goal

abbrev pub invariant-loop-edge : goal.invariant-loop-edge
invariant-loop-edge l =
    (y : Times) → FitsRoom l.self y ↔ (FitsRoom l.fn.self y × (edges_hold (take l.edge-index l.edge-items) y l.b ≡ true))
