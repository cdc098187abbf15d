use Rattle.{session.proofs.Common.{◌<◌, length, take_more, TypeId}, session_model.proofs.Counting_on.{one_more_count}}
use Rattle.session.proofs.counting.counts_of.Goals as goal

pub loop-ty-preserved : goal.loop-ty-preserved
loop-ty-preserved c =
    let none : TypeId = record { 0 = 0 } in
    let below : c.loop-ty.ty-index < length c.args.types.now = c.loop-ty-test.true in
    rw (c.in_ok-push.ensures.items, take_more c.args.types.now c.loop-ty.ty-index none below)
    (one_more_count c.args.facts.now _ c.loop-ty.counts.items _ c.held_of.result c.loop-ty.invariant c.held_of.ensures)
