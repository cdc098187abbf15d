use Rattle.candidate_source.{proofs.Common.{has_place, nat_cmp, option_map}, specs.{declared.sources.Sources.{Sources}, Moving.{HaveMoved, TurnStep}}}
use Rattle.{candidate_source.specs.Sources.{AreApart, AreLaidAs, AreReachedAs}, std.specs.List.Sorted.{IsStrictlySortedBy}, rule_model.specs.Lent.{lent}}
use Rattle.candidate_source.proofs.sources.Sources.turn_led.Given as goal

-- what the places that are left move, all move
abbrev pub invariant-loop-place : goal.invariant-loop-place
invariant-loop-place g l = record {
  sorted : IsStrictlySortedBy nat_cmp l.place-iterator;
  laid : AreLaidAs l.initial.self l.self;
  reached : AreReachedAs l.initial.self l.self;
  moved : AreApart l.initial.self → (after : Sources) → HaveMoved (TurnStep l.program (lent l.gone) (option_map (λ f. f.now) l.come) l.clock (g.F.Facts.map l.facts)) (has_place l.place-iterator) l.self after → HaveMoved (TurnStep l.program (lent l.gone) (option_map (λ f. f.now) l.come) l.clock (g.F.Facts.map l.facts)) (has_place l.due.keys) l.initial.self after;
}
