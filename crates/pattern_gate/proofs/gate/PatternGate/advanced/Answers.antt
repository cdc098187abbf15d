use Rattle.pattern_gate.proofs.Common.{refl, ℤ, List, option_map, Bor, to_z-of_z, Fact, has, lent, Arrival, rows_inside, StandsForArrivals, window_of}
use Rattle.pattern_gate.proofs.Common.{less_facts, more_fact, TakesStep, ReachesArrivals}
use Rattle.pattern_gate.proofs.gate.PatternGate.advanced.Goals as goal

-- after the clock, the facts that go and the one that comes
reached : (c : goal.In_ok-delta) (arrivals : List Arrival) (was : ℤ) → StandsForArrivals c.args.self.now.gate arrivals was
    → TakesStep (window_of c.args.self.now.gate) c.args.pattern.now arrivals was (lent c.args.gone.now) (option_map (λ (f : Bor Fact). f.now) c.args.come) c.args.clock
    → ReachesArrivals (has (rows_inside (window_of c.args.self.now.gate) was arrivals)) (window_of c.args.self.now.gate) c.fact_comes.new.self c.fact_comes.new.change
    (more_fact c.args.pattern.now (less_facts c.args.pattern.now arrivals (lent c.args.gone.now)) (option_map (λ (f : Bor Fact). f.now) c.args.come)) c.args.clock
reached c arrivals was stands takes =
    let fits = c.ranges.clock in
    let old = has (rows_inside (window_of c.args.self.now.gate) was arrivals) in
    let kind = window_of c.args.self.now.gate in
    let begun : ReachesArrivals old kind c.args.self.now c.none-change.result arrivals was = record { window = refl; stands = stands; leads = c.none-change.ensures old } in
    let moved : ReachesArrivals old kind c.turn.new.self c.turn.new.change arrivals c.args.clock = simp to_z-of_z at (c.in_ok-turn.ensures.reaches old kind arrivals was) begun takes.moves in
    let went : ReachesArrivals old kind c.facts_go.new.self c.facts_go.new.change (less_facts c.args.pattern.now arrivals (lent c.args.gone.now)) c.args.clock =
    simp to_z-of_z at (c.in_ok-facts_go.ensures.reaches old kind arrivals) moved takes.goes in
    simp to_z-of_z at (c.in_ok-fact_comes.ensures.reaches old kind (less_facts c.args.pattern.now arrivals (lent c.args.gone.now))) went takes.comes

pub returns-clause-stands : goal.returns-clause-stands
returns-clause-stands c arrivals was stands takes = let r = reached c arrivals was stands takes in r.stands

pub returns-clause-difference : goal.returns-clause-difference
returns-clause-difference c arrivals was stands takes =
    let r = reached c arrivals was stands takes in
    let kind = window_of c.args.self.now.gate in
    c.in_ok-delta.ensures (has (rows_inside kind was arrivals))
    (has (rows_inside kind c.args.clock (more_fact c.args.pattern.now (less_facts c.args.pattern.now arrivals (lent c.args.gone.now)) (option_map (λ (f : Bor Fact). f.now) c.args.come)))) r.leads
