use Rattle.range_index.proofs.Trees.{leaves_more}
use Rattle.range_index.proofs.index.ranges_of.Goals as goal

pub loop-node-preserved : goal.loop-node-preserved
loop-node-preserved c = leaves_more c.args.nodes.now c.loop-node.node-index _ c.loop-node.ranges.items c.put_range.new.ranges.items c.loop-node-test.true c.loop-node.invariant c.in_ok-put_range.ensures
