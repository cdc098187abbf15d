use Rattle.image_fitting.proofs.{Common.{◌∙◌, ◌-◌, ◌<◌, sym, arith}, Telling.{always, never, in_order, not_in_order, not_less}}
use Rattle.image_fitting.proofs.orders.are_in_order.Goals as goal

pub returns-then-ne : goal.returns-then-ne
returns-then-ne g c =
    let place = c.loop-place.place in
    let before : place - 1 < place = omega arith in
    never (not_in_order g.T.Ranked.order c.args.items.now (place - 1) place c.index-items-place.result c.index-items-place-in-loop-place.result c.rank.result before c.loop-place-test.true
    c.index-items-place.is c.index-items-place-in-loop-place.is c.rank.ensures (not_less c.rank.result (sym c.ne.ensures ∙ c.if-ne.true)))

pub returns : goal.returns
returns g c = always (in_order g.T.Ranked.order g.T.Ranked.total c.args.items.now c.loop-place.place c.loop-place-test.false c.loop-place.invariant)
