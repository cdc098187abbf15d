use Rattle.session.proofs.Common.{SFits, to_z-of_z, w64}
use Rattle.session.proofs.state.State.step.Goals as goal

pub returns-in-Advance-clause-stands : goal.returns-in-Advance-clause-stands
returns-in-Advance-clause-stands c =
    let fits : SFits w64 c.in-Advance.by = search in
    rw c.in-Advance.is (simp to_z-of_z at c.advance.ensures.stands)

pub returns-in-At-clause-stands : goal.returns-in-At-clause-stands
returns-in-At-clause-stands c =
    let fits : SFits w64 c.in-At.moment = search in
    rw c.in-At.is (simp to_z-of_z at c.go_to.ensures.stands)

pub returns-in-Advance-clause-lines : goal.returns-in-Advance-clause-lines
returns-in-Advance-clause-lines c =
    let fits : SFits w64 c.in-Advance.by = search in
    rw c.in-Advance.is (simp to_z-of_z at c.advance.ensures.lines)

pub returns-in-At-clause-lines : goal.returns-in-At-clause-lines
returns-in-At-clause-lines c =
    let fits : SFits w64 c.in-At.moment = search in
    rw c.in-At.is (simp to_z-of_z at c.go_to.ensures.lines)

pub returns-in-Promise-clause-stands : goal.returns-in-Promise-clause-stands
returns-in-Promise-clause-stands c =
    let fits : SFits w64 c.in-Promise.from = search in
    rw c.in-Promise.is (simp to_z-of_z at c.promise_from.ensures.stands)

pub returns-in-Promise-clause-lines : goal.returns-in-Promise-clause-lines
returns-in-Promise-clause-lines c =
    let fits : SFits w64 c.in-Promise.from = search in
    rw c.in-Promise.is (simp to_z-of_z at c.promise_from.ensures.lines)

pub returns-in-Modify-clause-lines : goal.returns-in-Modify-clause-lines
returns-in-Modify-clause-lines c = rw c.in-Modify.is c.modify.ensures.lines

pub returns-in-Retract-clause-lines : goal.returns-in-Retract-clause-lines
returns-in-Retract-clause-lines c = rw c.in-Retract.is c.retract.ensures.lines
