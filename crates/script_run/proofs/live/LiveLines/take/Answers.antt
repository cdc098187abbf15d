use Rattle.script_run.{proofs.{Common.{◌+◌}, Steps.{closes_live, long_closes_live}}, specs.Live.{live_by}}
use Rattle.script_run.proofs.live.LiveLines.take.Goals as goal

pub returns-in_ok-close-in-Long-clause-turn : goal.returns-in_ok-close-in-Long-clause-turn
returns-in_ok-close-in-Long-clause-turn g c w ahead behind st answers =
    let it = c.args.self.obeying in
    let live = live_by it.live it.form g.E.Engine.gives g.E.Engine.fires g.E.Engine.counts it.limit (g.E.Engine.made_with it.engine) (g.E.Engine.table it.engine) c.args.self.has_image in
    let long = rw c.in-Long.is at answers in
    (long.0, long.2, long_closes_live live (c.args.at.lines + 1) c.args.at.left w long.0 c.args.text.now.items c.push_fault.new.text.items _ (g.E.Engine.stands it.engine) long.1 c.in_ok-push_fault-in-Long.ensures st c.in_ok-close-in-Long.ensures)

pub returns-in_ok-close-in-Whole-clause-turn : goal.returns-in_ok-close-in-Whole-clause-turn
returns-in_ok-close-in-Whole-clause-turn g c w ahead behind st answers =
    let it = c.args.self.obeying in
    let live = live_by it.live it.form g.E.Engine.gives g.E.Engine.fires g.E.Engine.counts it.limit (g.E.Engine.made_with it.engine) (g.E.Engine.table it.engine) c.args.self.has_image in
    let whole = rw c.in-Whole.is at answers in
    let answered = c.in_ok-lines-in-Whole.ensures in
    let told = rw c.as_slice.ensures at (answered.done w st) in
    let fires = rw c.as_slice.ensures at answered.fires in
    let end = rw (answered.live, answered.form, answered.limit, answered.program, answered.table) at c.in_ok-close-in-Whole.ensures in
    (_, whole.1, closes_live live (c.args.at.lines + 1) c.args.at.left w _ _ c.answer_line.new.text.items _ (g.E.Engine.stands c.in_ok-lines-in-Whole.field-0.lines.obeying.engine) _ _ fires told end)
