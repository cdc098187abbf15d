use Rattle.drl_show.proofs.Common.{◌≡◌, ◌++◌, drop, shown_items}
use Rattle.drl_show.proofs.text.show.Given as goal

abbrev pub invariant-loop-item : goal.invariant-loop-item
invariant-loop-item l = l.out.items ++ shown_items (drop l.item-index l.item-items) ≡ shown_items l.file.items
