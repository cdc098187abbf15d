use Rattle.checkpoint.proofs.Loops.{writes_on, fits_on}
use Rattle.checkpoint.proofs.lists.put_each.Goals as goal

pub loop-item-preserved : goal.loop-item-preserved
loop-item-preserved g c =
    let inv = c.loop-item.invariant in
    record {
      appended = writes_on c.args.items.now c.item-item.result g.T.Spelled.spelling c.loop-item.item-index c.loop-item.out.items _ _ c.loop-item-test.true c.item-item.is c.in_ok-put.ensures.appends inv.appended;
      fits = fits_on c.args.items.now c.item-item.result g.T.Spelled.is_fit c.loop-item.item-index c.loop-item-test.true c.item-item.is inv.fits c.in_ok-put.ensures.fits;
    }
