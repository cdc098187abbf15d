use Rattle.script_run.proofs.HeldText.{none_next, no_line}
use Rattle.script_run.proofs.counting.push_next.Goals as goal

pub returns-in-None : goal.returns-in-None
returns-in-None c types = none_next c.args.form.now c.args.line c.args.text.now.items c.args.ty.now types c.args.numbers.now c.in-None.ensures.cases

pub returns-then-not-ty : goal.returns-then-not-ty
returns-then-not-ty c types = no_line c.args.form.now c.args.line c.args.text.now.items c.args.ty.now types c.args.numbers.now c.if-not-ty.true
