use Rattle.{drl_typing.proofs.Common.{◌≡◌, ◌++◌, map, drop, taken_by}, drl_scope.specs.Declarations.{types_of}}
use Rattle.drl_typing.proofs.kinded.kinds_of_types.Given as goal

abbrev pub invariant-loop-item : goal.invariant-loop-item
invariant-loop-item l = l.kinds.items ++ map taken_by (types_of (drop l.item-index l.items)) ≡ map taken_by (types_of l.items)
