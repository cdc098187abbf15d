use Rattle.fan_join.proofs.{Common.{◌∙◌, ap, sym, List, ℕ, false≢true, has_place}, Whole.{none_kept, unkept_more}}
use Rattle.fan_join.proofs.asking.differences.Goals as goal

pub loop-place-init : goal.loop-place-init
loop-place-init g c = record {
  kept = none_kept c.args.turn.now (g.F.Facts.map c.args.facts.now) c.args.members.now c.new-deltas.result c.new-deltas.ensures.empty;
  unkept = λ k a m asked later none.
      absurd (false≢true (sym later ∙ ap (λ (places : List ℕ). has_place places k) c.into_iter-place-iterator.ensures.into_iter_gives.0 ∙ asked));
}

pub loop-place-preserved : goal.loop-place-preserved
loop-place-preserved g c = record {
  kept = c.in_ok-ask.ensures.kept c.loop-place.invariant.kept;
  unkept = unkept_more c.args.turn.now (g.F.Facts.map c.args.facts.now) c.args.members.now c.args.places.now.keys c.loop-place.place-iterator c.next.new.self c.in-Some.place.now c.loop-place.deltas c.ask.new.deltas
      c.in-Some.ensures.steps c.loop-place.invariant.unkept c.in_ok-ask.ensures.stays c.in_ok-ask.ensures.unkept;
}

pub returns : goal.returns
returns g c = record {
  kept = c.loop-place.invariant.kept;
  unkept = λ k a m asked none. c.loop-place.invariant.unkept k a m asked (ap (λ (places : List ℕ). has_place places k) c.in-None.ensures.steps.0) none;
}
