use Rattle.{script_run.proofs.{Common.{ap, ◌∙◌, append, empty_world}, Faults.{err_as}}, line_run.proofs.Ahead.{if_told}}
use Rattle.script_run.proofs.running.run.Goals as goal

pub returns-in-Ok-clause-done : goal.returns-in-Ok-clause-done
returns-in-Ok-clause-done g c =
    let done = rw (c.in_ok-engine.ensures.program, c.in_ok-engine.ensures.table, c.first.ensures) at c.in-Ok.ensures.done in
    if_told (g.S.Source.left c.args.script.now) (λ bytes d. (c.ending.ensures ∙ d.1, done.1 ∙ ap (append (g.K.Sink.written c.args.out.now)) d.0)) (done.2 empty_world c.in_ok-engine.ensures.stands)

pub returns-in-Ok-clause-taken : goal.returns-in-Ok-clause-taken
returns-in-Ok-clause-taken g c = rw c.ending.ensures c.in-Ok.ensures.taken

pub returns-in-Ok-clause-nothing_left : goal.returns-in-Ok-clause-nothing_left
returns-in-Ok-clause-nothing_left g c = rw c.ending.ensures c.in-Ok.ensures.nothing_left

pub returns-in-Err-clause-front : goal.returns-in-Err-clause-front
returns-in-Err-clause-front g c = rw (c.in_ok-engine.ensures.program, c.in_ok-engine.ensures.table, c.first.ensures) at (c.in-Err.ensures.front empty_world c.in_ok-engine.ensures.stands)

pub returns-in-Err-clause-long : goal.returns-in-Err-clause-long
returns-in-Err-clause-long g c is = rw (c.in_ok-engine.ensures.program, c.in_ok-engine.ensures.table, c.first.ensures) at (c.in-Err.ensures.long empty_world c.in_ok-engine.ensures.stands (err_as _ _ is))

pub returns-in-Err-clause-stopped_at_read : goal.returns-in-Err-clause-stopped_at_read
returns-in-Err-clause-stopped_at_read g c is = rw (c.in_ok-engine.ensures.program, c.in_ok-engine.ensures.table, c.first.ensures) at (c.in-Err.ensures.stopped_at_read empty_world c.in_ok-engine.ensures.stands (err_as _ _ is))

pub returns-in-Err-clause-stopped_at_length : goal.returns-in-Err-clause-stopped_at_length
returns-in-Err-clause-stopped_at_length g c is = rw (c.in_ok-engine.ensures.program, c.in_ok-engine.ensures.table, c.first.ensures) at (c.in-Err.ensures.stopped_at_length empty_world c.in_ok-engine.ensures.stands (err_as _ _ is))
