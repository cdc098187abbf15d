use Rattle.change_rules.{proofs.{Common.{ap, arith, get_or, place_in, ◌<◌, ◌∙◌, length}, Telling.{new_ends, new_goes_on}}, specs.Told.{told_list, with_told}}
use Rattle.{std.proofs.lemmas.List.{get_or_default}, rule_change.specs.declared.code.RuleStatus.{RuleStatus}}
use Rattle.change_rules.proofs.told.tell_new.Goals as goal

pub loop-place-preserved : goal.loop-place-preserved
loop-place-preserved c =
    let done = told_list c.loop-place.told.items in
    let rules = c.args.rules.now in
    let place = c.loop-place.place in
    let rule = get_or rules place c.index-rules-place.result in
    let low : c.loop-place.place < length c.args.rules.now = omega arith in
    new_goes_on rules place done _ rule low (get_or_default rules place c.index-rules-place.result rule low) (place_in c.args.places.now) _
    (c.in_ok-tell.ensures ∙ ap (λ (status : RuleStatus). with_told done (rule.name, status)) c.status_at.ensures) c.loop-place.invariant

pub returns : goal.returns
returns c = new_ends c.args.rules.now c.loop-place.place (told_list c.loop-place.told.items) _ (place_in c.args.places.now) (omega arith) c.loop-place.invariant
