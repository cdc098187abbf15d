use Rattle.subrules.proofs.Common.{◌≡◌, ◌+◌, drop, obstacle_from}
use Rattle.subrules.proofs.faults.first_obstacle.Given as goal

abbrev pub invariant-loop-item : goal.invariant-loop-item
invariant-loop-item l = record {
  same : obstacle_from l.types l.number (drop l.item-index l.items) ≡ obstacle_from l.types 1 l.items;
  counts : l.number ≡ l.item-index + 1;
}
