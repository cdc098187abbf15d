use Rattle.candidate_source.proofs.{Common.{◌≡◌, subst, ℕ, List, true, false, has_place}, Resting.{due_next, due_still}}
use Rattle.candidate_source.proofs.sources.put_handed.Goals as goal

pub loop-place-preserved : goal.loop-place-preserved
loop-place-preserved c = record {
  kept = λ k there. due_still c.in-Some.place.now k _ _ (c.in_ok-insert.ensures.updates.0 k) (c.loop-place.invariant.kept k there);
  put = λ k named.
      due_next c.in-Some.place.now k c.next.new.self _ _ (c.in_ok-insert.ensures.updates.0 k)
      (subst (λ (places : List ℕ). has_place places k ≡ false → has_place c.loop-place.due.keys k ≡ true) c.in-Some.ensures.steps (c.loop-place.invariant.put k named));
}
