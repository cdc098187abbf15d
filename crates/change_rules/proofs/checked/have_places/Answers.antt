use Rattle.{change_rules.proofs.{Common.{arith, length, refl, ◌<◌}, Apart.{one_rule, places_each, places_there}}, std.proofs.lemmas.Option.{slice_get_within}}
use Rattle.std.proofs.lemmas.Option.{slice_get_read}
use Rattle.change_rules.proofs.checked.have_places.Goals as goal

pub returns-clause-places : goal.returns-clause-places
returns-clause-places c is =
    let ended = c.loop-place-test.false in
    let rules = c.as_slice-rules.ensures in
    places_there c.args.program.now (λ place rule at.
    let within : place < length c.args.program.now.rules = slice_get_within c.args.program.now.rules place rule at in
    let many = rw rules at ended in
    let below : place < c.loop-place.place = omega (arith, within, many) in
    c.loop-place.invariant place rule below at)

pub returns-then-not-rule_has_places-clause-none : goal.returns-then-not-rule_has_places-clause-none
returns-then-not-rule_has_places-clause-none c is all =
    let rules = c.as_slice-rules.ensures in
    let place = c.loop-place.place in
    let rule = c.index-rules-place.result in
    let there = slice_get_read c.args.program.now.rules (length c.args.program.now.rules) place rule refl
    (rw rules at c.loop-place-test.true) (rw rules at c.index-rules-place.is) in
    (rw (c.as_slice-types.ensures, c.as_slice-entries.ensures) at (c.if-not-rule_has_places.ensures.none refl))
    (places_each c.args.program.now all place rule there)

pub loop-place-preserved : goal.loop-place-preserved
loop-place-preserved c =
    one_rule (length c.args.program.now.types) (length c.args.program.now.entries) c.args.program.now.rules c.loop-place.place c.index-rules-place.result
    (rw c.as_slice-rules.ensures at c.index-rules-place.is)
    (rw (c.as_slice-types.ensures, c.as_slice-entries.ensures) at (c.if-not-rule_has_places.ensures.places refl)) c.loop-place.invariant
