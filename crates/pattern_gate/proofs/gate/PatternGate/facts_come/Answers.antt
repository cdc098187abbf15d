use Rattle.pattern_gate.proofs.{Common.{◌∙◌, length, drop, ◌≤◌, arith, to_z-of_z, lent, more_facts, LetsAllCome, ReachesArrivals}, Turning.{IsExpected}}
use Rattle.pattern_gate.proofs.Turning.{one_comes, all_came}
use Rattle.pattern_gate.proofs.gate.PatternGate.facts_come.Goals as goal

pub loop-fact-preserved : goal.loop-fact-preserved
loop-fact-preserved c =
    let fits = c.ranges.clock in
    record {
      window = c.in_ok-fact_comes.ensures.window ∙ c.loop-fact.invariant.window;
      left = λ old kind arrivals reaches comes.
          one_comes old kind c.args.pattern.now _ c.loop-fact.self c.fact_comes.new.self c.loop-fact.change c.fact_comes.new.change c.fact-item.result c.args.come.now
          (more_facts c.args.pattern.now arrivals (lent c.args.come.now)) c.loop-fact.fact-index c.loop-fact-test.true c.fact-item.is
          c.in_ok-fact_comes.ensures.reaches (c.loop-fact.invariant.left old kind arrivals reaches comes);
    }

pub returns-clause-reaches : goal.returns-clause-reaches
returns-clause-reaches c old kind arrivals reaches comes =
    let fits = c.ranges.clock in
    let over : length c.args.come.now ≤ c.loop-fact.fact-index = omega arith in
    let left : ReachesArrivals old kind c.args.self.now c.args.change.now arrivals c.args.clock → LetsAllCome kind c.args.pattern.now c.args.clock arrivals (lent c.args.come.now)
    → IsExpected old kind c.args.pattern.now c.args.clock c.loop-fact.self c.loop-fact.change (lent (drop c.loop-fact.fact-index c.args.come.now)) (more_facts c.args.pattern.now arrivals (lent c.args.come.now)) =
    simp to_z-of_z at (c.loop-fact.invariant.left old kind arrivals) in
    all_came old kind c.args.pattern.now c.args.clock c.loop-fact.self c.loop-fact.change c.args.come.now (more_facts c.args.pattern.now arrivals (lent c.args.come.now)) c.loop-fact.fact-index over (left reaches comes)
