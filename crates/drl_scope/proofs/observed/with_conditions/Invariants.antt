use Rattle.drl_scope.proofs.Common.{◌≡◌, ◌++◌, drop, flat_map, watched_by}
use Rattle.drl_scope.proofs.observed.with_conditions.Given as goal

abbrev pub invariant-loop-condition : goal.invariant-loop-condition
invariant-loop-condition l = l.more ++ flat_map watched_by (drop l.condition-index l.conditions) ≡ l.fn.names ++ flat_map watched_by l.conditions
