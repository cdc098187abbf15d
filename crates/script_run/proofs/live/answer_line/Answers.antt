use Rattle.script_run.{proofs.{Common.{◌≡◌, ◌+◌, None, sym, ap, ◌∙◌, setting_with}, Steps.{fires_line, told_read}}, specs.Live.{question_in}}
use Rattle.script_run.specs.Reads.{fires_read}
use Rattle.script_run.proofs.live.answer_line.Goals as goal

-- a line that asks nothing is done as it reads
pub returns-clause-done : goal.returns-clause-done
returns-clause-done g c w st =
    let it = c.args.lines.obeying in
    let setting = setting_with it.live it.form g.E.Engine.gives g.E.Engine.fires g.E.Engine.counts it.limit (g.E.Engine.made_with it.engine) (g.E.Engine.table it.engine) in
    let none : question_in c.args.line.now ≡ None = sym (c.in_ok-asked.ensures c.in_ok-read.ensures) ∙ c.in-None.is in
    rw (none, told_read setting (c.args.at.lines + 1) c.args.at.left w c.args.line.now c.requires.short, sym c.in_ok-read.ensures) (c.in_ok-taker-in-None.ensures.done w st)

pub returns-clause-fires : goal.returns-clause-fires
returns-clause-fires g c = c.in_ok-taker-in-None.ensures.fires ∙ ap fires_read c.in_ok-read.ensures ∙ sym (fires_line c.args.line.now c.requires.short)
