use Rattle.fan_join.proofs.{Common.{has_place}, Places.{put_below}}
use Rattle.fan_join.proofs.reach.all_places.Goals as goal

pub loop-place-preserved : goal.loop-place-preserved
loop-place-preserved c k below = put_below c.loop-place.place k (has_place c.loop-place.places.keys k) _ (c.in_ok-insert.ensures.updates.0 k) (c.loop-place.invariant k) below
