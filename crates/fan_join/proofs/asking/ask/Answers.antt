use Rattle.{fan_join.proofs.{Common.{◌∙◌, sym, refl}, Whole.{kept_more, unkept_here}}, std.proofs.lemmas.Option.{none-some, slice_get_past, slice_get_read}}
use Rattle.std.proofs.lemmas.Result.{on_ok_weaker}
use Rattle.fan_join.proofs.asking.ask.Goals as goal

pub returns-in_ok-delta-in-Some-clause-kept : goal.returns-in_ok-delta-in-Some-clause-kept
returns-in_ok-delta-in-Some-clause-kept g c =
    on_ok_weaker c.put_change.result
    (λ put. kept_more c.args.turn.now (g.F.Facts.map c.args.facts.now) c.args.members.now c.args.place c.in-Some.member.now c.in_ok-delta-in-Some.delta c.args.deltas.now c.put_change.new.deltas (slice_get_read _ _ _ _ refl c.in-Some.ensures.lookup.3.0 c.in-Some.ensures.lookup.1)
    c.in_ok-delta-in-Some.ensures put) c.put_change.ensures

pub returns-in_ok-delta-in-Some-clause-unkept : goal.returns-in_ok-delta-in-Some-clause-unkept
returns-in_ok-delta-in-Some-clause-unkept g c =
    on_ok_weaker c.put_change.result
    (λ put. unkept_here c.args.turn.now (g.F.Facts.map c.args.facts.now) c.args.members.now c.args.place c.in-Some.member.now c.in_ok-delta-in-Some.delta c.args.deltas.now c.put_change.new.deltas (slice_get_read _ _ _ _ refl c.in-Some.ensures.lookup.3.0 c.in-Some.ensures.lookup.1)
    c.in_ok-delta-in-Some.ensures put) c.put_change.ensures

pub returns-in-None-clause-unkept : goal.returns-in-None-clause-unkept
returns-in-None-clause-unkept g c a there none = absurd (none-some a (sym (slice_get_past _ _ c.in-None.ensures.lookup.3) ∙ there))
