use Rattle.rete_net.proofs.{Common.{has_place}, Places.{put_more}}
use Rattle.rete_net.proofs.due.put_all.Goals as goal

pub loop-place-preserved : goal.loop-place-preserved
loop-place-preserved c k =
    put_more k c.args.places.now c.loop-place.place-index (has_place c.args.set.now.keys k) _ _ c.loop-place-test.true
    (c.loop-place.invariant k) (c.in_ok-insert.ensures.updates.0 k)
