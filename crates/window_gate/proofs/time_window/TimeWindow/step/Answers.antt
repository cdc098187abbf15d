use Rattle.window_gate.proofs.Common.{◌≤ℤ◌, ◌∙◌, sym, ap, subst, map, List, to_z-of_z, most, MayChange, Named, Time, single, leaves, brings, Leave, Enter}
use Rattle.window_gate.proofs.{Lengths.{slice_is}, Times.{step_keeps, step_between}}
use Rattle.window_gate.proofs.time_window.TimeWindow.step.Goals as goal

left : (c : goal.After-drop-left-2) → Leave c.args.self c.leave.new.self (leaves c.args.self.millis c.args.now c.args.change.now) c.in_ok-left.left.items
left c = let time = c.ranges.now in simp to_z-of_z at c.in_ok-left.ensures.leave

entered : (c : goal.After-drop-left-2) (names : List Named) → MayChange (Time c.args.self.millis) names c.args.change.now → c.args.self.millis ≤ℤ most
    → Enter c.leave.new.self c.come.new.self (brings c.leave.new.self.millis c.args.now c.args.change.now) c.in_ok-come.come
entered c names may short =
    let time = c.ranges.now in
    let enter = simp to_z-of_z at c.in_ok-come.ensures.enter in
    enter names (subst (λ m. MayChange (Time m) names c.args.change.now) (sym (left c).millis) may) (subst (λ m. m ≤ℤ most) (sym (left c).millis) short)

pub returns-clause-keeps : goal.returns-clause-keeps
returns-clause-keeps c arrivals was keeps differ pass may =
    step_keeps c.args.self c.leave.new.self c.come.new.self arrivals was c.args.now pass.0 keeps differ c.args.change.now may c.in_ok-left.left.items c.in_ok-come.come (left c) (entered c _ may pass.1) c.in_ok-come.ensures.millis

pub returns-clause-difference : goal.returns-clause-difference
returns-clause-difference c arrivals was keeps differ pass may =
    step_between c.args.self c.leave.new.self c.come.new.self arrivals was c.args.now pass.0 keeps differ c.args.change.now may c.in_ok-left.left.items c.in_ok-come.come (left c) (entered c _ may pass.1) c.in_ok-come.ensures.millis
    c.in_ok-delta.delta c.in_ok-left.ensures.in_order (c.in_ok-delta.ensures.gone ∙ ap (map single) c.deref.ensures.value)
    (c.in_ok-delta.ensures.come ∙ ap (map single) (slice_is c.in_ok-come.come c.as_slice.result.now c.as_slice.ensures))

pub returns-clause-millis : goal.returns-clause-millis
returns-clause-millis c = c.in_ok-come.ensures.millis ∙ (left c).millis
