use Rattle.drl_scope.proofs.{Common.{◌∙◌, arith}, EntryLemmas.{with_item}}
use Rattle.drl_scope.proofs.entries.entry_points.Goals as goal

pub loop-item-preserved : goal.loop-item-preserved
loop-item-preserved c = rw c.in_ok-known-2.ensures (with_item c.loop-item.known c.args.items.now c.loop-item.item-index c.item-item.result (omega arith) c.item-item.is ∙ c.loop-item.invariant)
