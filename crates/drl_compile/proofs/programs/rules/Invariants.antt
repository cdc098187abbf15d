use Rattle.drl_compile.proofs.Common.{◌≡◌, ◌++◌, map, drop, rules_of, rule_of}
use Rattle.drl_compile.proofs.programs.rules.Given as goal

abbrev pub invariant-loop-item : goal.invariant-loop-item
invariant-loop-item l = l.rules.items ++ map (rule_of l.types l.entries) (rules_of (drop l.item-index l.items)) ≡ map (rule_of l.types l.entries) (rules_of l.items)
