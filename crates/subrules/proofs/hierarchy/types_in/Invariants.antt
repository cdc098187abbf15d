use Rattle.subrules.proofs.Common.{◌≡◌, ◌++◌, map, drop, written_types_of}
use Rattle.subrules.proofs.hierarchy.types_in.Given as goal

abbrev pub invariant-loop-item : goal.invariant-loop-item
invariant-loop-item l = map (λ t. t.now) l.types.items ++ written_types_of (drop l.item-index l.items) ≡ written_types_of l.items
