use Rattle.rule_eval.proofs.Common.{◌≡◌, ◌++◌, map, drop, lent, name_of}
use Rattle.rule_eval.proofs.bindings.names_of.Given as goal

abbrev pub invariant-loop-fact : goal.invariant-loop-fact
invariant-loop-fact l = l.names.items ++ map name_of (lent (drop l.fact-index l.facts)) ≡ map name_of (lent l.facts)
