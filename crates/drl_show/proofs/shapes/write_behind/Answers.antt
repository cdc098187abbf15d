use Rattle.drl_show.proofs.{Common.{◌≡◌, ◌∷◌, ap, ◌∙◌, Mark, added}, Added.{each_turn}}
use Rattle.drl_show.proofs.shapes.write_behind.Goals as goal

pub loop-item-preserved : goal.loop-item-preserved
loop-item-preserved g c =
    let is : c.write.new.out.items ≡ added c.loop-item.out.items (Mark c.args.separator ∷ g.T.Printed.tokens c.item-item.result) =
    c.in_ok-write.ensures ∙ ap (λ bytes. added bytes (g.T.Printed.tokens c.item-item.result)) c.in_ok-mark.ensures in
    each_turn (λ y. Mark c.args.separator ∷ g.T.Printed.tokens y) c.args.items.now c.item-item.result c.loop-item.item-index c.loop-item.out.items _ _ c.loop-item-test.true c.item-item.is is c.loop-item.invariant
