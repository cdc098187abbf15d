use Rattle.subrules.proofs.Common.{◌≡◌, take, flat_map, plain_items, titles_in, origins_from}
use Rattle.subrules.proofs.expanding.front.Given as goal

abbrev pub invariant-loop-item : goal.invariant-loop-item
invariant-loop-item l = record {
  counts : l.made.front ≡ l.item-index;
  items : l.made.items.items ≡ flat_map (plain_items l.types) (take l.item-index l.items);
  origins : l.made.origins.items ≡ origins_from l.types 1 (take l.item-index l.items);
  titles : l.made.titles.items ≡ flat_map (λ item. titles_in l.types item.body) (take l.item-index l.items);
}
