use Rattle.subrules.proofs.Common.{◌≡◌, ◌++◌}
use Rattle.subrules.proofs.ways.ended.Given as goal

abbrev pub invariant-loop-way : goal.invariant-loop-way
invariant-loop-way l = l.ways.items ++ l.way-iterator.rest.items ≡ l.fn.asked.done ++ l.fn.asked.here
