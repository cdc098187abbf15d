use Rattle.window_gate.proofs.Common.{sym, subst, map, IfOk, IsBetween, GateChange, Length, named_of, after, rows_inside, KeepsLength, MayChange}
use Rattle.window_gate.proofs.Lengths.{between_clock, keeps_still}
use Rattle.window_gate.proofs.length_window.LengthWindow.step.Goals as goal

pub returns-in-Come-clause-keeps : goal.returns-in-Come-clause-keeps
returns-in-Come-clause-keeps c arrivals was now keeps differ may =
    let P : GateChange → Type 0 = λ change. MayChange (Length c.args.self.size) (map named_of arrivals) change → IfOk c.come.result (λ r. KeepsLength r.0 (after arrivals change) now) in
    subst P (sym c.in-Come.is) (λ fits. c.come.ensures.keeps arrivals c.in-Come.field-1 was now keeps fits.0) may

pub returns-in-Come-clause-difference : goal.returns-in-Come-clause-difference
returns-in-Come-clause-difference c arrivals was now keeps differ may =
    let P : GateChange → Type 0 = λ change. MayChange (Length c.args.self.size) (map named_of arrivals) change
    → IfOk c.come.result (λ r. IsBetween (rows_inside (Length c.args.self.size) was arrivals) (rows_inside (Length c.args.self.size) now (after arrivals change)) r.1) in
    subst P (sym c.in-Come.is) (λ fits. c.come.ensures.difference arrivals c.in-Come.field-1 was now keeps differ fits.0) may

pub returns-in-Gone-clause-keeps : goal.returns-in-Gone-clause-keeps
returns-in-Gone-clause-keeps c arrivals was now keeps differ may =
    let P : GateChange → Type 0 = λ change. IfOk c.go.result (λ r. KeepsLength r.0 (after arrivals change) now) in
    subst P (sym c.in-Gone.is) (c.go.ensures.keeps arrivals was now keeps differ)

pub returns-in-Gone-clause-difference : goal.returns-in-Gone-clause-difference
returns-in-Gone-clause-difference c arrivals was now keeps differ may =
    let P : GateChange → Type 0 = λ change. IfOk c.go.result (λ r. IsBetween (rows_inside (Length c.args.self.size) was arrivals) (rows_inside (Length c.args.self.size) now (after arrivals change)) r.1) in
    subst P (sym c.in-Gone.is) (c.go.ensures.difference arrivals was now keeps differ)

pub returns-in_ok-delta-in-Clock-clause-keeps : goal.returns-in_ok-delta-in-Clock-clause-keeps
returns-in_ok-delta-in-Clock-clause-keeps c arrivals was now keeps differ may =
    let P : GateChange → Type 0 = λ change. KeepsLength c.args.self (after arrivals change) now in
    subst P (sym c.in-Clock.is) (keeps_still c.args.self arrivals was now keeps)

pub returns-in_ok-delta-in-Clock-clause-difference : goal.returns-in_ok-delta-in-Clock-clause-difference
returns-in_ok-delta-in-Clock-clause-difference c arrivals was now keeps differ may =
    let P : GateChange → Type 0 = λ change. IsBetween (rows_inside (Length c.args.self.size) was arrivals) (rows_inside (Length c.args.self.size) now (after arrivals change)) c.in_ok-delta-in-Clock.delta in
    subst P (sym c.in-Clock.is) (between_clock c.args.self arrivals was now c.in_ok-delta-in-Clock.delta keeps c.in_ok-delta-in-Clock.ensures.gone c.in_ok-delta-in-Clock.ensures.come)
