use Rattle.pattern_gate.proofs.Common.{◌∙◌, subst, sym, to_z-of_z, IsBetween, after, rows_inside, StandsForArrivals, window_of, TakesChange, WindowKind}
use Rattle.pattern_gate.proofs.Turning.{led_on}
use Rattle.pattern_gate.proofs.gate.PatternGate.turn.Goals as goal

pub returns-clause-reaches : goal.returns-clause-reaches
returns-clause-reaches c old kind arrivals was before takes =
    let fits = c.ranges.clock in
    let gate = c.args.self.now.gate in
    let may : TakesChange (window_of gate) arrivals was c.args.event.now c.args.clock = subst (λ (k : WindowKind). TakesChange k arrivals was c.args.event.now c.args.clock) (sym before.window) takes in
    let stands : StandsForArrivals gate arrivals was → TakesChange (window_of gate) arrivals was c.args.event.now c.args.clock → StandsForArrivals c.turn.new.self (after arrivals c.args.event.now) c.args.clock =
    simp to_z-of_z at (c.in_ok-delta.ensures.stands arrivals was) in
    let between : StandsForArrivals gate arrivals was → TakesChange (window_of gate) arrivals was c.args.event.now c.args.clock
    → IsBetween (rows_inside (window_of gate) was arrivals) (rows_inside (window_of gate) c.args.clock (after arrivals c.args.event.now)) c.in_ok-delta.delta =
    simp to_z-of_z at (c.in_ok-delta.ensures.between arrivals was) in
    let inside : IsBetween (rows_inside kind was arrivals) (rows_inside kind c.args.clock (after arrivals c.args.event.now)) c.in_ok-delta.delta =
    subst (λ (k : WindowKind). IsBetween (rows_inside k was arrivals) (rows_inside k c.args.clock (after arrivals c.args.event.now)) c.in_ok-delta.delta) before.window (between before.stands may) in
    record {
      window = c.in_ok-delta.ensures.window ∙ before.window;
      stands = stands before.stands may;
      leads = led_on old (rows_inside kind was arrivals) (rows_inside kind c.args.clock (after arrivals c.args.event.now)) c.in_ok-delta.delta inside
          c.into_vec.result.items c.into_vec-2.result.items c.into_vec.ensures c.into_vec-2.ensures
          c.args.change.now.gone.keys c.leave.new.self.gone.keys c.arrive.new.self.gone.keys c.args.change.now.come.keys c.leave.new.self.come.keys c.arrive.new.self.come.keys
          c.in_ok-leave.ensures c.in_ok-arrive.ensures before.leads;
    }
