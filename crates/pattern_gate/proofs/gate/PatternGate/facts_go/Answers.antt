use Rattle.pattern_gate.proofs.{Common.{◌∙◌, length, drop, ◌≤◌, arith, to_z-of_z, lent, less_facts, LetsAllGo, ReachesArrivals}, Turning.{IsLeft, one_goes}}
use Rattle.pattern_gate.proofs.Turning.{all_went}
use Rattle.pattern_gate.proofs.gate.PatternGate.facts_go.Goals as goal

pub loop-fact-preserved : goal.loop-fact-preserved
loop-fact-preserved c =
    let fits = c.ranges.clock in
    record {
      window = c.in_ok-fact_goes.ensures.window ∙ c.loop-fact.invariant.window;
      left = λ old kind arrivals reaches goes.
          one_goes old kind c.args.pattern.now _ c.loop-fact.self c.fact_goes.new.self c.loop-fact.change c.fact_goes.new.change c.fact-item.result c.args.gone.now
          (less_facts c.args.pattern.now arrivals (lent c.args.gone.now)) c.loop-fact.fact-index c.loop-fact-test.true c.fact-item.is
          c.in_ok-fact_goes.ensures.reaches (c.loop-fact.invariant.left old kind arrivals reaches goes);
    }

pub returns-clause-reaches : goal.returns-clause-reaches
returns-clause-reaches c old kind arrivals reaches goes =
    let fits = c.ranges.clock in
    let over : length c.args.gone.now ≤ c.loop-fact.fact-index = omega arith in
    let left : ReachesArrivals old kind c.args.self.now c.args.change.now arrivals c.args.clock → LetsAllGo kind c.args.pattern.now c.args.clock arrivals (lent c.args.gone.now)
    → IsLeft old kind c.args.pattern.now c.args.clock c.loop-fact.self c.loop-fact.change (lent (drop c.loop-fact.fact-index c.args.gone.now)) (less_facts c.args.pattern.now arrivals (lent c.args.gone.now)) =
    simp to_z-of_z at (c.loop-fact.invariant.left old kind arrivals) in
    all_went old kind c.args.pattern.now c.args.clock c.loop-fact.self c.loop-fact.change c.args.gone.now (less_facts c.args.pattern.now arrivals (lent c.args.gone.now)) c.loop-fact.fact-index over (left reaches goes)
