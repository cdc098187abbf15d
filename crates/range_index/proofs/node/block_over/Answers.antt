use Rattle.{std.proofs.Common.{◌∙◌}, range_index.proofs.Trees.{bounds_more}}
use Rattle.range_index.proofs.node.block_over.Goals as goal

pub loop-range-preserved : goal.loop-range-preserved
loop-range-preserved c = record {
  bounds = bounds_more c.loop-range.block c.with-block.result c.args.ranges.now c.loop-range.range-index _ c.loop-range-test.true c.loop-range.invariant.bounds c.with-block.ensures.least c.with-block.ensures.most;
  below = c.with-block.ensures.below ∙ c.loop-range.invariant.below;
}
