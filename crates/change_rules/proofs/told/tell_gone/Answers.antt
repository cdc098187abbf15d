use Rattle.change_rules.{proofs.{Common.{arith, get_or, length, sym, ◌<◌, ◌∙◌}, Telling.{gone_ends, gone_goes_on, gone_stays}}, specs.Told.{told_list}}
use Rattle.{fx_base.proofs.Sequences.{get-below}, std.proofs.lemmas.{List.{get_or_default}, Option.{get_or_from_slice_get}}}
use Rattle.change_rules.proofs.told.tell_gone.Goals as goal
use Rattle.change_rules.proofs.told.tell_gone.Goals.{then-not-is_taken+in_ok-tell, else-not-is_taken}

pub loop-place-preserved : goal.loop-place-preserved
loop-place-preserved c =
    let done = told_list c.loop-place.told.items in
    let rules = c.args.rules.now in
    let place = c.loop-place.place in
    let low : c.loop-place.place < length c.args.rules.now = omega arith in
    elim c.if-not-is_taken.branch [
      | then-not-is_taken+in_ok-tell w ↦
          (let rule = get_or rules place w.index-rules-place.result in
          rw w.told-is (gone_goes_on rules place done _ rule low (get_or_default rules place w.index-rules-place.result rule low) c.args.stay.now _
          (sym c.is_taken.ensures ∙ w.if-not-is_taken.true) w.in_ok-tell.ensures c.loop-place.invariant))
      | else-not-is_taken w ↦
          (let there = get-below rules place low in
          rw w.told-is (gone_stays rules place done _ there.0 low (sym (get_or_from_slice_get rules place there.0 there.0 there.1)) c.args.stay.now
          (sym c.is_taken.ensures ∙ w.if-not-is_taken.false) c.loop-place.invariant))
    ]

pub returns : goal.returns
returns c = gone_ends c.args.rules.now c.loop-place.place (told_list c.loop-place.told.items) _ c.args.stay.now (omega arith) c.loop-place.invariant
