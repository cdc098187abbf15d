use Rattle.image_fitting.proofs.{Common.{◌<◌, ◌≤◌, length, sym, arith}, Telling.{unlike_kinds, kinds_end, kinds_on, kinds_over}}
use Rattle.image_fitting.proofs.facts.have_kinds.Goals as goal

pub returns-then-fields-values : goal.returns-then-fields-values
returns-then-fields-values c = sym (unlike_kinds c.args.fields.now c.args.values.now c.if-fields-values.true)

pub returns-then-not-has_kind : goal.returns-then-not-has_kind
returns-then-not-has_kind c =
    let also : c.loop-place.place < length c.args.values.now = omega arith in
    kinds_end c.args.fields.now c.args.values.now c.loop-place.place c.index-fields-place.result c.index-values-place.result c.has_kind.result
    c.loop-place-test.true also c.index-fields-place.is c.index-values-place.is c.has_kind.ensures c.if-not-has_kind.true c.loop-place.invariant

pub loop-place-preserved : goal.loop-place-preserved
loop-place-preserved c =
    let also : c.loop-place.place < length c.args.values.now = omega arith in
    kinds_on c.args.fields.now c.args.values.now c.loop-place.place c.index-fields-place.result c.index-values-place.result c.has_kind.result
    c.loop-place-test.true also c.index-fields-place.is c.index-values-place.is c.has_kind.ensures c.if-not-has_kind.false c.loop-place.invariant

pub returns : goal.returns
returns c =
    let also : length c.args.values.now ≤ c.loop-place.place = omega arith in
    kinds_over c.args.fields.now c.args.values.now c.loop-place.place c.loop-place-test.false also c.loop-place.invariant
