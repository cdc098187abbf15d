use Rattle.{std.proofs.Common.{refl}, image_making.proofs.Held.{one_held}}
use Rattle.image_making.proofs.at_hand.AtHand.of.Goals as goal

pub loop-fact-preserved : goal.loop-fact-preserved
loop-fact-preserved c =
    one_held c.args.facts.now c.requires c.loop-fact.fact-index c.fact-item.result c.loop-fact-test.true c.fact-item.is c.loop-fact.by_tag c.insert.new.self _ refl
    c.in_ok-insert.ensures.updates.0 c.loop-fact.invariant
