use Rattle.drl_scope.proofs.Common.{◌≡◌, ◌++◌, drop}
use Rattle.drl_scope.proofs.places.Places.of.Given as goal

abbrev pub invariant-loop-name : goal.invariant-loop-name
invariant-loop-name l = l.places ++ drop l.name-index l.names ≡ l.names
