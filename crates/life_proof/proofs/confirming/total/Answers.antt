use Rattle.{life_proof.proofs.{Common.{SFits, to_z-of_z, arith, ints}, Sums.{added}}, std.specs.Int.{w128}}
use Rattle.life_proof.proofs.confirming.total.Goals as goal

pub loop-edge-preserved : goal.loop-edge-preserved
loop-edge-preserved c =
    let next = added c.args.edges.now c.loop-edge.edge-index _ _ _ c.loop-edge-test.true c.loop-edge.invariant c.with_edge-sum.ensures.sum c.with_edge-sum.ensures.low c.with_edge-sum.ensures.high in
    let low = next.low in
    let high = next.high in
    let fits : SFits w128 c.with_edge-sum.result = omega (arith, ints) in
    rw (to_z-of_z fits) next
