use Rattle.change_rules.proofs.{Common.{Some, None, ap, arith, get_or, length, sym, ◌<◌, ◌∙◌, ◌≡◌}, Apart.{one_type}}
use Rattle.std.proofs.lemmas.Option.{slice_get-get_or, slice_get_within}
use Rattle.change_rules.proofs.checked.are_first_types.Goals as goal

pub returns-in_default-2-clause-none : goal.returns-in_default-2-clause-none
returns-in_default-2-clause-none c is first =
    let place = c.loop-place.place in
    let info = c.index-types-place.result in
    let found = first place (get_or c.args.types.now place info) (slice_get-get_or c.args.types.now place info c.loop-place-test.true) in
    absurd (let torn : None ≡ Some place = c.in_default.ensures ∙ found in cc)

pub loop-place-preserved : goal.loop-place-preserved
loop-place-preserved c =
    let there = c.in-Some.ensures in
    let from = c.from.ensures in
    let same = c.if-from-place.true in
    one_type c.args.types.now c.loop-place.place c.index-types-place.result
    (sym there ∙ ap Some (sym from ∙ same)) c.loop-place.invariant

pub returns-clause-first : goal.returns-clause-first
returns-clause-first c is place ty at =
    let ended = c.loop-place-test.false in
    let within : place < length c.args.types.now = slice_get_within c.args.types.now place ty at in
    let below : place < c.loop-place.place = omega (arith, within, ended) in
    c.loop-place.invariant place ty below at
