use Rattle.script_read.{proofs.{Common.{rules, ◌≡◌, bad_json, AnswersLine}, AskedLaws.{answer_ok, answer_bad_command, asked_unread}}, specs.Asked.{asked}}
use Rattle.script_read.proofs.line.command.Goals as goal

pub returns-in_ok-form-in-Some-clause-ok : goal.returns-in_ok-form-in-Some-clause-ok
unfolding asked
returns-in_ok-form-in-Some-clause-ok c =
    let says : AnswersLine (asked c.args.line.now) c.ok_or.result = search rules in answer_ok c.args.line.now c.ok_or.result says

pub returns-in_ok-form-in-Some-clause-bad_command : goal.returns-in_ok-form-in-Some-clause-bad_command
unfolding asked
returns-in_ok-form-in-Some-clause-bad_command c =
    let says : AnswersLine (asked c.args.line.now) c.ok_or.result = search rules in answer_bad_command c.args.line.now c.ok_or.result says

pub returns-in-None-clause-bad_json : goal.returns-in-None-clause-bad_json
unfolding asked
returns-in-None-clause-bad_json c is =
    let says : asked c.args.line.now ≡ bad_json = search rules in asked_unread c.args.line.now says
