use Rattle.fan_join.proofs.{Common.{◌∙◌, sym, ap, ◌||◌, ℕ, List, has_place}, Places.{put_next, put_stays}}
use Rattle.fan_join.proofs.reach.add_places.Goals as goal

pub loop-place-preserved : goal.loop-place-preserved
loop-place-preserved c = record {
  stays = λ k was. put_stays c.in-Some.place.now k (has_place c.loop-place.places.keys k) _ (c.in_ok-insert-in-Many.ensures.updates.0 k) (c.loop-place.invariant.stays k was);
  added = λ k there.
      put_next c.in-Some.place.now k (has_place c.loop-place.places.keys k) _ (c.in_ok-insert-in-Many.ensures.updates.0 k) (has_place c.next.new.self k)
      (ap (λ (next : List ℕ). has_place c.loop-place.places.keys k || has_place next k) (sym c.in-Some.ensures.steps) ∙ c.loop-place.invariant.added k there);
}

pub returns-in_ok-insert-in-One-clause-stays : goal.returns-in_ok-insert-in-One-clause-stays
returns-in_ok-insert-in-One-clause-stays c k was = put_stays c.in-One.place k (has_place c.args.places.now.keys k) _ (c.in_ok-insert-in-One.ensures.updates.0 k) was
