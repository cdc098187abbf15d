use Rattle.{std.proofs.Common.{◌≡◌, take}, range_index.specs.Nodes.{Bounds}}
use Rattle.range_index.proofs.node.block_over.Given as goal

abbrev pub invariant-loop-range : goal.invariant-loop-range
invariant-loop-range l = record {
  bounds : Bounds l.block (take l.range-index l.ranges);
  below : l.block.below ≡ l.initial.block.below;
}
