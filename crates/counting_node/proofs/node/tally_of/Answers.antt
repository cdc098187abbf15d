use Rattle.counting_node.proofs.{Common.{refl, get_or, name_equiv, any_name}, Following.{tally_more, name_within}}
use Rattle.counting_node.proofs.node.tally_of.Goals as goal

pub loop-who-preserved : goal.loop-who-preserved
loop-who-preserved g c world alike =
    let names = c.args.names.now in
    let i = c.loop-who.who-index in
    let below = c.loop-who-test.true in
    let who = get_or names i any_name in
    tally_more (g.T.Tally.holds c.args.plan.now) world names i who below refl c.requires c.loop-who.tally c.in_ok-tally.tally
    (c.in_ok-tally.ensures world (alike who (name_within names i below who (name_equiv.refl who)))) (c.loop-who.invariant world alike)
