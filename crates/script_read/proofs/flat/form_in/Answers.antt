use Rattle.script_read.proofs.{Common.{arith, length-drop}, Forms.{same_command, same_found, first_is}}
use Rattle.script_read.proofs.flat.form_in.Goals as goal

pub returns-in-insert : goal.returns-in-insert
returns-in-insert c =
    let members = c.args.members.now in
    same_command c.insert.result
    (first_is members c.first-item.result c.in-Some.word.now (omega (arith, c.in-len1-up.len_at_least)) (omega (arith, length-drop 1 members)) c.first-item.is c.in-insert.is c.in-Some.ensures)
    c.insert.ensures

pub returns-in-modify : goal.returns-in-modify
returns-in-modify c =
    let members = c.args.members.now in
    same_command c.modify.result
    (first_is members c.first-item.result c.in-Some.word.now (omega (arith, c.in-len1-up.len_at_least)) (omega (arith, length-drop 1 members)) c.first-item.is c.in-modify.is c.in-Some.ensures)
    c.modify.ensures

pub returns-in-retract : goal.returns-in-retract
returns-in-retract c =
    let members = c.args.members.now in
    same_command c.retract.result
    (first_is members c.first-item.result c.in-Some.word.now (omega (arith, c.in-len1-up.len_at_least)) (omega (arith, length-drop 1 members)) c.first-item.is c.in-retract.is c.in-Some.ensures)
    c.retract.ensures

pub returns-in-promise : goal.returns-in-promise
returns-in-promise c =
    let members = c.args.members.now in
    same_command c.promise.result
    (first_is members c.first-item.result c.in-Some.word.now (omega (arith, c.in-len1-up.len_at_least)) (omega (arith, length-drop 1 members)) c.first-item.is c.in-promise.is c.in-Some.ensures)
    c.promise.ensures

pub returns-in-fire : goal.returns-in-fire
returns-in-fire c =
    let members = c.args.members.now in
    same_found c.fire.result
    (first_is members c.first-item.result c.in-Some.word.now (omega (arith, c.in-len1-up.len_at_least)) (omega (arith, length-drop 1 members)) c.first-item.is c.in-fire.is c.in-Some.ensures)
    c.fire.ensures

pub returns-in-at : goal.returns-in-at
returns-in-at c =
    let members = c.args.members.now in
    same_found c.at.result
    (first_is members c.first-item.result c.in-Some.word.now (omega (arith, c.in-len1-up.len_at_least)) (omega (arith, length-drop 1 members)) c.first-item.is c.in-at.is c.in-Some.ensures)
    c.at.ensures

pub returns-in-advance : goal.returns-in-advance
returns-in-advance c =
    let members = c.args.members.now in
    same_found c.advance.result
    (first_is members c.first-item.result c.in-Some.word.now (omega (arith, c.in-len1-up.len_at_least)) (omega (arith, length-drop 1 members)) c.first-item.is c.in-advance.is c.in-Some.ensures)
    c.advance.ensures
