use Rattle.subrules.proofs.Common.{◌≡◌, ◌++◌, drop, flat_map, short_items}
use Rattle.subrules.proofs.expanding.add_behind.Given as goal

abbrev pub invariant-loop-item : goal.invariant-loop-item
invariant-loop-item l = l.items.items ++ flat_map (short_items l.types) (drop l.item-index l.behind) ≡ l.fn.items.items ++ flat_map (short_items l.types) l.behind
