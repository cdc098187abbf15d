use Rattle.window_gate.proofs.{Common.{◌<ℤ◌, ◌≤ℤ◌, refl, arith, ints, to_z-of_z}, Holding.{enter_one, enter_late}}
use Rattle.window_gate.proofs.time_window.TimeWindow.enter.Goals as goal

pub returns-then-moment-now-clause-enter : goal.returns-then-moment-now-clause-enter
returns-then-moment-now-clause-enter c start is =
    let late : c.args.moment ≤ℤ c.args.now = grind (arith, ints, c.if-moment-now.true) in
    enter_late c.args.self.now c.args.named start c.args.moment c.args.now is late

pub returns-clause-enter : goal.returns-clause-enter
returns-clause-enter c start is =
    let fits = c.ranges.moment in
    let time = c.ranges.now in
    let ahead : c.args.now <ℤ c.args.moment = grind (arith, ints, c.if-moment-now.false) in
    enter_one c.args.self.now _ c.args.named start c.args.moment c.args.now refl is ahead (simp to_z-of_z at c.in_ok-put.ensures.kept)
