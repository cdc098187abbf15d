use Rattle.drl_compile.proofs.Common.{◌≡◌, ◌++◌, map, drop, types_of, type_info}
use Rattle.drl_compile.proofs.infos_of.infos_of_types.Given as goal

abbrev pub invariant-loop-item : goal.invariant-loop-item
invariant-loop-item l = l.infos.items ++ map (type_info l.observed) (types_of (drop l.item-index l.items)) ≡ map (type_info l.observed) (types_of l.items)
