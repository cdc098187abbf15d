use Rattle.subrules.proofs.Common.{◌≡◌, ◌++◌, drop}
use Rattle.subrules.proofs.ways.joined.Given as goal

abbrev pub invariant-loop-condition : goal.invariant-loop-condition
invariant-loop-condition l = l.way.items ++ drop l.condition-index l.second ≡ l.first ++ l.second
