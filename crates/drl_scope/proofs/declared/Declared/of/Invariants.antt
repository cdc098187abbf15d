use Rattle.drl_scope.proofs.Common.{◌≡◌, ◌++◌, drop, types_of, type_names}
use Rattle.drl_scope.proofs.declared.Declared.of.Given as goal

abbrev pub invariant-loop-item : goal.invariant-loop-item
invariant-loop-item l = record {
  types : l.types.items ++ types_of (drop l.item-index l.items) ≡ types_of l.items;
  names : l.names ≡ type_names l.types.items;
}
