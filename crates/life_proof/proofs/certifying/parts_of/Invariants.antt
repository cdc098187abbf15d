use Rattle.life_proof.proofs.Certified.{Makes}
use Rattle.life_proof.proofs.certifying.parts_of.Given as goal

abbrev pub invariant-loop-one : goal.invariant-loop-one
invariant-loop-one l = Makes l.program l.asked l.one-index l.parts.items
