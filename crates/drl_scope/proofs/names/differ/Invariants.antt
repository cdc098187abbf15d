use Rattle.drl_scope.proofs.Common.{◌≡◌, ◌++◌, drop, true, are_distinct}
use Rattle.drl_scope.proofs.names.differ.Given as goal

abbrev pub invariant-loop-name : goal.invariant-loop-name
invariant-loop-name l = record {
  parts : l.earlier ++ drop l.name-index l.names ≡ l.names;
  apart : are_distinct l.earlier ≡ true;
}
