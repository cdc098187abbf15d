use Rattle.life_proof.proofs.Common.{◌≡◌, ◌++◌, drop, asked_from, asked_in, each_from}
use Rattle.life_proof.proofs.asking.add_rule.Given as goal

abbrev pub invariant-loop-from : goal.invariant-loop-from
invariant-loop-from l = l.asked.items ++ each_from (asked_from l.program l.lives l.place l.rule.conditions) l.from (drop l.from l.rule.conditions) ≡ l.fn.asked.items ++ asked_in l.program l.lives l.place l.rule
