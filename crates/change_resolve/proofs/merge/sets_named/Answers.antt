use Rattle.change_resolve.proofs.{Common.{◌∙◌, sym, ap, set_for}, Merging.{one_set}}
use Rattle.change_resolve.proofs.merge.sets_named.Goals as goal

pub loop-place-preserved : goal.loop-place-preserved
loop-place-preserved c fields is =
    let m = c.index-members-place.result in
    one_set fields c.args.members.now c.args.named.now c.loop-place.place m c.loop-place.sets.items c.push.new.self.items c.in-Some.set _
    c.loop-place-test.true c.index-members-place.is is (sym c.in-Some.is ∙ c.in_ok-set.ensures ∙ ap (λ field. set_for field m.1) c.field_at.ensures) c.in_ok-push-in-Some.ensures.items (c.loop-place.invariant fields is)
