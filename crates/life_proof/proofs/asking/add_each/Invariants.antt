use Rattle.life_proof.proofs.Common.{◌≡◌, ◌++◌, drop, asked_to, each_from}
use Rattle.life_proof.proofs.asking.add_each.Given as goal

abbrev pub invariant-loop-to : goal.invariant-loop-to
invariant-loop-to l = l.asked.items ++ each_from (asked_to l.program l.rule l.from l.life) l.to (drop l.to l.conditions) ≡ l.fn.asked.items ++ each_from (asked_to l.program l.rule l.from l.life) 0 l.conditions
