use Rattle.session.proofs.Common.{◌≡◌, ◌++◌, drop, cells}
use Rattle.session.proofs.firing.cells_of.Given as goal

abbrev pub invariant-loop-condition : goal.invariant-loop-condition
invariant-loop-condition l = l.found.items ++ cells (drop l.condition-index l.conditions) l.facts l.values ≡ cells l.conditions l.row.facts l.row.values
