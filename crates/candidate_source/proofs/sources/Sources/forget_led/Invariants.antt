use Rattle.candidate_source.{proofs.Common.{has_place, nat_cmp, HaveLeft}, specs.{declared.sources.Sources.{Sources}, Moving.{HaveMoved}, Sources.{AreApart}}}
use Rattle.{candidate_source.specs.Sources.{AreLaidAs, AreReachedAs}, std.specs.List.Sorted.{IsStrictlySortedBy}}
use Rattle.candidate_source.proofs.sources.Sources.forget_led.Given as goal

-- what the places that are left move, all move
abbrev pub invariant-loop-place : goal.invariant-loop-place
invariant-loop-place g l = record {
  sorted : IsStrictlySortedBy nat_cmp l.place-iterator;
  laid : AreLaidAs l.initial.self l.self;
  reached : AreReachedAs l.initial.self l.self;
  moved : AreApart l.initial.self → (after : Sources) → HaveMoved (λ a b. HaveLeft a b (g.F.Facts.map l.facts) l.old) (has_place l.place-iterator) l.self after → HaveMoved (λ a b. HaveLeft a b (g.F.Facts.map l.facts) l.old) (has_place l.due.keys) l.initial.self after;
}
