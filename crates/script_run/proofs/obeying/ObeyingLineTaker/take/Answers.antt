use Rattle.script_run.{proofs.{Common.{◌+◌}, Steps.{closes, long_closes}}, specs.Run.{setting_with}}
use Rattle.script_run.proofs.obeying.ObeyingLineTaker.take.Goals as goal

pub returns-in_ok-close-in-Long-clause-turn : goal.returns-in_ok-close-in-Long-clause-turn
returns-in_ok-close-in-Long-clause-turn g c w ahead behind st answers =
    let setting = setting_with c.args.self.live c.args.self.form g.E.Engine.gives g.E.Engine.fires g.E.Engine.counts c.args.self.limit (g.E.Engine.made_with c.args.self.engine) (g.E.Engine.table c.args.self.engine) in
    let long = rw c.in-Long.is at answers in
    (long.0, long.2, long_closes setting (c.args.at.lines + 1) c.args.at.left w long.0 c.args.text.now.items c.push_fault.new.text.items _ (g.E.Engine.stands c.args.self.engine) long.1 c.in_ok-push_fault-in-Long.ensures st c.in_ok-close-in-Long.ensures)

pub returns-in_ok-close-in-Whole-clause-turn : goal.returns-in_ok-close-in-Whole-clause-turn
returns-in_ok-close-in-Whole-clause-turn g c w ahead behind st answers =
    let setting = setting_with c.args.self.live c.args.self.form g.E.Engine.gives g.E.Engine.fires g.E.Engine.counts c.args.self.limit (g.E.Engine.made_with c.args.self.engine) (g.E.Engine.table c.args.self.engine) in
    let whole = rw c.in-Whole.is at answers in
    let obeyed = c.in_ok-taker-in-Whole.ensures in
    let told = rw c.as_slice.ensures at (obeyed.done w st) in
    let fires = rw c.as_slice.ensures at obeyed.fires in
    let end = rw (obeyed.live, obeyed.form, obeyed.limit, obeyed.program, obeyed.table) at c.in_ok-close-in-Whole.ensures in
    (_, whole.1, closes setting (c.args.at.lines + 1) c.args.at.left w _ _ c.obey_line.new.text.items _ (g.E.Engine.stands c.in_ok-taker-in-Whole.field-0.taker.engine) _ _ fires told end)
