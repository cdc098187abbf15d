use Rattle.candidate_source.proofs.{Common.{subst, nat_cmp, option_map}, Moving.{laid_then, more_moved, none_move, reached_then, still_apart}}
use Rattle.{candidate_source.specs.Moving.{TurnStep}, std.{proofs.{Common.{to_z-of_z}, lemmas.Map.Keys.{sorted_tail}}, specs.List.Sorted.{IsStrictlySortedBy}}}
use Rattle.rule_model.specs.Lent.{lent}
use Rattle.candidate_source.proofs.sources.Sources.turn_led.Goals as goal

pub loop-place-preserved : goal.loop-place-preserved
loop-place-preserved g c =
    let was = c.loop-place.self in
    let is = c.turn_if_led.new.self in
    let now = c.in_ok-turn_if_led.ensures in
    let sorted = subst (IsStrictlySortedBy nat_cmp) c.in-Some.ensures.steps c.loop-place.invariant.sorted in
    record {
      sorted = sorted_tail nat_cmp c.in-Some.place.now c.next.new.self sorted;
      laid = laid_then c.args.self.now was is c.loop-place.invariant.laid now.laid;
      reached = reached_then c.args.self.now was is c.loop-place.invariant.laid c.loop-place.invariant.reached now.reached;
      moved = λ apart after rest.
          c.loop-place.invariant.moved apart after
          (more_moved _ c.loop-place.place-iterator c.in-Some.place.now c.next.new.self was is after now.laid c.in-Some.ensures.steps sorted
          (now.moved (still_apart c.args.self.now was c.loop-place.invariant.laid c.loop-place.invariant.reached apart)) rest);
    }

pub returns-clause-moved : goal.returns-clause-moved
returns-clause-moved g c =
    let fits = c.ranges.clock in
    let moved = simp to_z-of_z at c.loop-place.invariant.moved in
    λ apart. moved apart c.loop-place.self (none_move (TurnStep c.args.program.now (lent c.args.gone.now) (option_map (λ f. f.now) c.args.come) c.args.clock (g.F.Facts.map c.args.facts.now)) c.loop-place.place-iterator c.loop-place.self c.in-None.ensures.steps.0)
