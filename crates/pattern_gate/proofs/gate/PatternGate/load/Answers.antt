use Rattle.pattern_gate.proofs.Common.{◌∙◌, [], to_z-of_z, has, lent, no_rows, rows_inside, PatternGate, window_kind_of, more_facts, LetsAllCome}
use Rattle.pattern_gate.proofs.{Common.{ReachesArrivals}, Moving.{all_may_come, stands_for_all, candidates_come}, Turning.{reaches_nothing}}
use Rattle.pattern_gate.proofs.gate.PatternGate.load.Goals as goal

-- all facts have come
reached : (c : goal.In_ok-delta) → LetsAllCome (window_kind_of c.args.pattern.now.window) c.args.pattern.now c.args.clock [] (lent c.args.facts.now)
    → ReachesArrivals no_rows (window_kind_of c.args.pattern.now.window) c.facts_come.new.self c.facts_come.new.change (more_facts c.args.pattern.now [] (lent c.args.facts.now)) c.args.clock
reached c may =
    let fits = c.ranges.clock in
    let kind = window_kind_of c.args.pattern.now.window in
    let gate : PatternGate = record { gate = c.new.result } in
    let begun : ReachesArrivals no_rows kind gate c.none-change.result [] c.args.clock =
    reaches_nothing kind gate c.none-change.result c.args.clock (c.new.ensures.window ∙ c.kind_of.ensures) (c.new.ensures.stands c.args.clock) c.none-change.ensures in
    simp to_z-of_z at (c.in_ok-facts_come.ensures.reaches no_rows kind []) begun may

pub returns-clause-stands : goal.returns-clause-stands
returns-clause-stands c p s good is of at =
    let r = reached c (all_may_come p c.args.pattern.now s is good (lent c.args.facts.now) of c.args.clock at) in
    stands_for_all p c.args.pattern.now s is good (lent c.args.facts.now) of c.args.clock at c.facts_come.new.self r.window r.stands

pub returns-clause-candidates : goal.returns-clause-candidates
returns-clause-candidates c p s good is of at =
    let r = reached c (all_may_come p c.args.pattern.now s is good (lent c.args.facts.now) of c.args.clock at) in
    candidates_come p c.args.pattern.now s is good (lent c.args.facts.now) of c.args.clock at c.in_ok-delta.delta
    (c.in_ok-delta.ensures no_rows (has (rows_inside (window_kind_of c.args.pattern.now.window) c.args.clock (more_facts c.args.pattern.now [] (lent c.args.facts.now)))) r.leads)
