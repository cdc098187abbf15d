use Rattle.temporal_ops.proofs.Common.{◌≡◌, ◌↔◌, true, take, Times, all_hold, FitsRoom}
use Rattle.temporal_ops.proofs.window.possible_start.Given as goal

abbrev pub invariant-loop-op : goal.invariant-loop-op
invariant-loop-op l =
    (y : Times) → FitsRoom l.room y ↔ (FitsRoom l.initial.room y × (all_hold (take l.op-index l.bounds) y ≡ true))
