use Rattle.session.proofs.Common.{turn_gone}
use Rattle.session.proofs.refreshing.take_all.Goals as goal

pub loop-tag-preserved : goal.loop-tag-preserved
loop-tag-preserved c =
    turn_gone c.args.facts.now c.args.tags.items c.loop-tag.facts c.take_fact.new.facts c.in-Some.tag c.loop-tag.tag-iterator.rest.items c.next.new.self.rest.items c.loop-tag.invariant c.in-Some.ensures.steps.0 c.take_fact.ensures
