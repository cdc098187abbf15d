use Rattle.life_proof.proofs.Common.{◌≡◌, drop, are_good_parts}
use Rattle.life_proof.proofs.confirming.are_good_parts.Given as goal

abbrev pub invariant-loop-place : goal.invariant-loop-place
invariant-loop-place l = are_good_parts l.program (drop l.place l.asked) (drop l.place l.parts) ≡ are_good_parts l.program l.asked l.parts
