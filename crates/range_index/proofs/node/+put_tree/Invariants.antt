use Rattle.std.proofs.Common.{length}
use Rattle.range_index.proofs.node.+put_tree.Given as goal

abbrev pub decreases-put_tree : goal.decreases-put_tree
decreases-put_tree l = length l.ranges.now
