use Rattle.drl_scope.proofs.Common.{◌≡◌, drop, flat_map, Item, entries_named, with_names, entry_names}
use Rattle.drl_scope.proofs.entries.entry_points.Given as goal

abbrev pub invariant-loop-item : goal.invariant-loop-item
invariant-loop-item l = with_names l.known (flat_map (λ (item : Item). entries_named item.body) (drop l.item-index l.items)) ≡ entry_names l.items
