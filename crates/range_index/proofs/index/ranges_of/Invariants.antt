use Rattle.{std.proofs.Common.{◌≡◌, take}, range_index.specs.Nodes.{leaves}}
use Rattle.range_index.proofs.index.ranges_of.Given as goal

abbrev pub invariant-loop-node : goal.invariant-loop-node
invariant-loop-node l = l.ranges.items ≡ leaves (take l.node-index l.nodes)
