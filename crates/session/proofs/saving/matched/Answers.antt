use Rattle.session.proofs.Common.{◌≡◌, ◌∙◌, List, Err, ap, Rule, lent, saliences, fired_refuses, matched_is, residual_unfit, row_refuses, kept_in_order}
use Rattle.session.proofs.saving.matched.Goals as goal

pub returns-in-Ok-clause-matched : goal.returns-in-Ok-clause-matched
returns-in-Ok-clause-matched c image are =
    let p = c.args.setting.now.program in
    let lives = c.args.setting.now.lives in
    let kept : lent c.deref.result.now ≡ image.facts = ap lent c.deref.ensures.value ∙ c.in_ok-kept.ensures ∙ kept_in_order p lives image are.plain c.requires.runs.runnable c.args.facts.now are.held in
    matched_is p lives image are.plain c.requires.runs.runnable (lent c.deref.result.now) c.args.extras.now c.args.facts.now c.args.moment.now kept are.counted are.held are.clock are.last_starts are.promises
    c.in-Ok.loaded.0 c.in-Ok.loaded.1.items c.in_ok-agenda-in-Ok.agenda c.args.fired.now are.marks (c.in-Ok.ensures.net c.requires.runs.runnable) c.in-Ok.ensures.stands
    c.in-Ok.ensures.rows c.in-Ok.ensures.all_there (c.in_ok-agenda-in-Ok.ensures.saliences ∙ ap (λ (rules : List Rule). saliences rules) c.as_slice.ensures) c.in_ok-agenda-in-Ok.ensures.marked
    c.in_ok-agenda-in-Ok.ensures.came

pub returns-in_err-agenda-in-Ok-clause-unfit : goal.returns-in_err-agenda-in-Ok-clause-unfit
returns-in_err-agenda-in-Ok-clause-unfit c image are unfit =
    let p = c.args.setting.now.program in
    let lives = c.args.setting.now.lives in
    let kept : lent c.deref.result.now ≡ image.facts = ap lent c.deref.ensures.value ∙ c.in_ok-kept.ensures ∙ kept_in_order p lives image are.plain c.requires.runs.runnable c.args.facts.now are.held in
    fired_refuses p lives image are.plain c.requires.runs.runnable (lent c.deref.result.now) c.args.extras.now c.args.facts.now c.args.moment.now kept are.counted are.held are.clock are.last_starts are.promises
    c.in-Ok.loaded.1.items c.args.fired.now are.marks c.in-Ok.ensures.rows (c.in_err-agenda-in-Ok.ensures.unfit (ap Err (residual_unfit c.from_residual-in_err-agenda-in-Ok.result c.in_err-agenda-in-Ok.field-0.0 c.from_residual-in_err-agenda-in-Ok.ensures.1 unfit)))

pub returns-in-Err-NoRow-clause-unfit : goal.returns-in-Err-NoRow-clause-unfit
returns-in-Err-NoRow-clause-unfit c image are unfit =
    let p = c.args.setting.now.program in
    let lives = c.args.setting.now.lives in
    let kept : lent c.deref.result.now ≡ image.facts = ap lent c.deref.ensures.value ∙ c.in_ok-kept.ensures ∙ kept_in_order p lives image are.plain c.requires.runs.runnable c.args.facts.now are.held in
    row_refuses p lives image are.plain c.requires.runs.runnable (lent c.deref.result.now) c.args.extras.now c.args.facts.now c.args.moment.now kept are.counted are.held are.clock are.last_starts are.promises
    (c.in-Err-NoRow.ensures.no_row (ap Err c.in-Err-NoRow.field-0-is))
