use Rattle.life_proof.proofs.Sums.{AreAdded}
use Rattle.life_proof.proofs.confirming.total.Given as goal

abbrev pub invariant-loop-edge : goal.invariant-loop-edge
invariant-loop-edge l = AreAdded l.edges l.edge-index l.sum
