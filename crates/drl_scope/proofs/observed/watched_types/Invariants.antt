use Rattle.drl_scope.proofs.Common.{◌≡◌, ◌++◌, drop, watched_names}
use Rattle.drl_scope.proofs.observed.watched_types.Given as goal

abbrev pub invariant-loop-item : goal.invariant-loop-item
invariant-loop-item l = l.names ++ watched_names (drop l.item-index l.items) ≡ watched_names l.items
