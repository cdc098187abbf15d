use Rattle.{rule_eval.proofs.{Common.{◌∙◌, ap, drop, arith, flat_map, lent, extended, over}, Stepwise.{next, end}}, fx_base.proofs.Sequences.{drop_at}}
use Rattle.fx_base.proofs.Sequences.{drop_past}
use Rattle.rule_eval.proofs.finding.found_bindings.Goals as goal

pub loop-condition-preserved : goal.loop-condition-preserved
loop-condition-preserved c =
    let p = c.args.finder.now.program.now in
    let s = over (lent c.args.facts.now) c.args.finder.now.moment.now in
    next p s c.args.conditions.now c.loop-condition.condition-index c.condition-item.result c.loop-condition.all.items c.in_ok-all.all.items
    (drop_at c.args.conditions.now c.loop-condition.condition-index c.condition-item.result c.loop-condition-test.true c.condition-item.is)
    (c.in_ok-all.ensures ∙ ap (flat_map (extended p s c.condition-item.result)) c.deref.ensures.value) c.loop-condition.invariant

pub returns : goal.returns
returns c =
    let rest = drop c.loop-condition.condition-index c.args.conditions.now in
    end c.args.finder.now.program.now (over (lent c.args.facts.now) c.args.finder.now.moment.now) c.args.conditions.now rest c.loop-condition.all.items
    (drop_past c.args.conditions.now c.loop-condition.condition-index (omega arith)) c.loop-condition.invariant
