use Rattle.pattern_gate.proofs.{Common.{option_map, Bor, to_z-of_z, Fact, lent}, Moving.{gate_stands, candidates_differ}}
use Rattle.pattern_gate.proofs.gate.PatternGate.advance.Goals as goal

pub returns-clause-stands : goal.returns-clause-stands
returns-clause-stands c s next good stands moves is =
    let fits = c.ranges.clock in
    gate_stands c.args.program.now c.args.pattern.now s next (lent c.args.gone.now) (option_map (λ (f : Bor Fact). f.now) c.args.come) moves good c.args.self.now c.args.clock is stands c.advanced.new.self
    c.in_ok-delta.ensures.window (simp to_z-of_z at c.in_ok-delta.ensures.stands)

pub returns-clause-difference : goal.returns-clause-difference
returns-clause-difference c s next good stands moves is =
    let fits = c.ranges.clock in
    candidates_differ c.args.program.now c.args.pattern.now s next (lent c.args.gone.now) (option_map (λ (f : Bor Fact). f.now) c.args.come) moves good c.args.self.now c.args.clock is stands
    c.in_ok-delta.delta (simp to_z-of_z at c.in_ok-delta.ensures.difference)
