use Rattle.image_fitting.proofs.{Common.{sym}, Placing.{no_rule, no_condition, placed_is}, Telling.{never}}
use Rattle.image_fitting.proofs.extras.is_placed.Goals as goal

pub returns-in-Some-condition_at : goal.returns-in-Some-condition_at
returns-in-Some-condition_at c = λ whole.
    placed_is c.args.program.now c.args.lives.now c.args.table.now c.args.extra.now c.is_placed_at.result c.in-Some.rule.now c.in-Some-condition_at.condition.now
    (sym c.in-Some.ensures) (sym c.in-Some-condition_at.ensures) c.is_placed_at.ensures whole

pub returns-in-None-condition_at : goal.returns-in-None-condition_at
returns-in-None-condition_at c = λ whole.
    never (no_condition c.args.program.now c.args.lives.now c.args.table.now c.args.extra.now c.in-Some.rule.now (sym c.in-Some.ensures) (sym c.in-None-condition_at.ensures))

pub returns-in-None : goal.returns-in-None
returns-in-None c = λ whole. never (no_rule c.args.program.now c.args.lives.now c.args.table.now c.args.extra.now (sym c.in-None.ensures))
