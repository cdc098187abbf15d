use Rattle.temporal_ops.proofs.Common.{◌≡◌, ◌++◌, map, take, drop, opposite_edge}
use Rattle.temporal_ops.proofs.op.Op.exchanged.Given as goal

abbrev pub invariant-loop-item : goal.invariant-loop-item
invariant-loop-item l =
    l.item-items ≡ map opposite_edge (take l.item-index l.initial.item-items) ++ drop l.item-index l.initial.item-items
