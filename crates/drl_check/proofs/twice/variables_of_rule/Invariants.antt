use Rattle.drl_check.proofs.Common.{◌≡◌, ◌++◌, drop, flat_map, variables_bound, bound_variables}
use Rattle.drl_check.proofs.twice.variables_of_rule.Given as goal

abbrev pub invariant-loop-condition : goal.invariant-loop-condition
invariant-loop-condition l = l.names.items ++ flat_map variables_bound (drop l.condition-index l.tree.conditions) ≡ bound_variables l.tree
