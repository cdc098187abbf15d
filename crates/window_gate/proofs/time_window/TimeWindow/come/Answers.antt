use Rattle.window_gate.proofs.Common.{◌≡◌, ◌+ℤ◌, sym, subst, rules, arith, FitsSigned, w64, ints, to_z-of_z, GateChange, Time, MayChange, brings, Enter}
use Rattle.window_gate.proofs.{Holding.{enter_none, not_come}, Times.{moment_is}}
use Rattle.window_gate.proofs.time_window.TimeWindow.come.Goals as goal

pub returns-in_ok-entered-in-Come-clause-enter : goal.returns-in_ok-entered-in-Come-clause-enter
returns-in_ok-entered-in-Come-clause-enter c names may short =
    let P : GateChange → Type 0 = λ change. MayChange (Time c.args.self.now.millis) names change → Enter c.args.self.now c.enter.new.self (brings c.args.self.now.millis c.args.now change) c.in_ok-entered-in-Come.entered in
    subst P (sym c.in-Come.is) (λ fits.
    let first : FitsSigned w64 c.in-Come.start = grind (arith, ints, fits.1) in
    let second : FitsSigned w64 c.args.self.now.millis = search rules in
    let moment : c.saturating_add-moment.result ≡ c.in-Come.start +ℤ c.args.self.now.millis = moment_is c.in-Come.start c.args.self.now.millis c.saturating_add-moment.result fits.1.0 fits.1.1 short second (simp to_z-of_z at c.saturating_add-moment.ensures) in
    let third : FitsSigned w64 c.saturating_add-moment.result = search rules in
    let time = c.ranges.now in
    simp to_z-of_z at c.in_ok-entered-in-Come.ensures.enter c.in-Come.start moment) may

pub returns-in_default-clause-enter : goal.returns-in_default-clause-enter
returns-in_default-clause-enter c names may short = enter_none c.args.self.now (brings c.args.self.now.millis c.args.now c.args.change.now) (not_come c.args.self.now.millis c.args.now c.args.change.now c.in_default.not-Come)
