use Rattle.life_proof.proofs.Common.{◌≡◌, ◌++◌, drop, asked, asked_in, each_from}
use Rattle.life_proof.proofs.asking.asked.Given as goal

abbrev pub invariant-loop-place : goal.invariant-loop-place
invariant-loop-place l = l.asked.items ++ each_from (asked_in l.program l.lives) l.place (drop l.place l.program.rules) ≡ asked l.program l.lives
