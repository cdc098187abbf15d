use Rattle.life_proof.proofs.Common.{◌≡◌, map, take, edge_at}
use Rattle.life_proof.proofs.certifying.numbered.Given as goal

abbrev pub invariant-loop-number : goal.invariant-loop-number
invariant-loop-number l = l.way.items ≡ map (edge_at l.edges) (take l.number-index l.numbers)
