use Rattle.life_proof.proofs.Common.{◌≡◌, drop, are_lives_of}
use Rattle.life_proof.proofs.tables.are_lives_of.Given as goal

abbrev pub invariant-loop-place : goal.invariant-loop-place
invariant-loop-place l = are_lives_of (drop l.place l.types) (drop l.place l.lives) ≡ are_lives_of l.types l.lives
