use Rattle.temporal_ops.{proofs.Common.{◌≡◌, ◌-ℤ◌, arith, to_z, of_z, w128, ints}, specs.Edges.{edge_holds}}
use Rattle.temporal_ops.proofs.edge.OpEdge.holds.Goals as goal

pub returns : goal.returns
unfolding edge_holds
returns c =
    let difference : to_z w128 (of_z w128 (to_z w128 (of_z w128 c.from.result) -ℤ to_z w128 (of_z w128 c.from-2.result))) ≡ (c.of.result -ℤ c.of-2.result) = omega (arith, ints) in
    let most : to_z w128 (of_z w128 c.from-3.result) ≡ c.args.self.now.most = omega (arith, ints) in
    cc
