use Rattle.subrules.proofs.Common.{◌≡◌, ◌++◌}
use Rattle.subrules.proofs.watchers.add_way.Given as goal

abbrev pub invariant-loop-condition : goal.invariant-loop-condition
invariant-loop-condition l = l.conditions.items ++ l.condition-iterator.rest.items ≡ l.fn.conditions.items ++ l.fn.way
