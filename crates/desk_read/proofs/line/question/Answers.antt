use Rattle.desk_read.{proofs.{Common.{rules, ◌≡◌, None, IfOk}, QuestionLaws.{asked_formless, told}}, specs.Questions.{question_of}}
use Rattle.desk_read.proofs.line.question.Goals as goal

pub returns-in-Some-clause-form : goal.returns-in-Some-clause-form
unfolding question_of
returns-in-Some-clause-form c =
    let says : IfOk c.form.result (λ q. q ≡ question_of c.args.line.now) = search rules in told c.args.line.now c.form.result says

pub returns-in-None-clause-form : goal.returns-in-None-clause-form
unfolding question_of
returns-in-None-clause-form c =
    let says : question_of c.args.line.now ≡ None = search rules in asked_formless c.args.line.now says
