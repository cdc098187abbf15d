use Rattle.drl_show.proofs.Added.{each_turn}
use Rattle.drl_show.proofs.shapes.write_each.Goals as goal

pub loop-item-preserved : goal.loop-item-preserved
loop-item-preserved g c = each_turn g.T.Printed.tokens c.args.items.now c.item-item.result c.loop-item.item-index c.loop-item.out.items _ _ c.loop-item-test.true c.item-item.is c.in_ok-write.ensures c.loop-item.invariant
