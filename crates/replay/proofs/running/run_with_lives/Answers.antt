use Rattle.replay.proofs.{Common.{inl, inr, refl, ap, Err, arith, Run, Unfit, wanted_at}, Calls.{checkpoint_done, nothing_done}, Prompting.{prompt_run}}
use Rattle.replay.proofs.Runs.{failing, refused_so, run_done, run_failed, unfit_run}
use Rattle.replay.proofs.running.run_with_lives.Goals as goal

pub returns-in-Ok-run_from-clause-run : goal.returns-in-Ok-run_from-clause-run
returns-in-Ok-run_from-clause-run g c name image first last h =
    let done = rw (c.in-Ok.ensures.program, c.in-Ok.ensures.table, c.behind-at.ensures, c.in-Ok.ensures.part) at c.in-Ok-run_from.ensures.done in
    rw c.status_found.ensures (run_done g.E.Engine.gives g.E.Engine.fires g.E.Engine.counts name image c.args.limit c.args.program c.args.lives c.args.beginning first last _ _ _ _ _ _ _ _ _ _ c.requires.lives c.in-Ok.ensures.fits _ _
    (done.0, done.1, λ w begins. done.2 w (c.in-Ok.ensures.stands w begins))
    c.in-Ok-run_from.ensures.taken c.in-Ok-run_from.ensures.nothing_left)

pub returns-clause-run : goal.returns-clause-run
returns-clause-run g c name image first last h =
    let front = rw (c.in-Ok.ensures.program, c.in-Ok.ensures.table, c.behind-at.ensures, c.in-Ok.ensures.part) at c.in-Err.ensures.front in
    let long = rw (c.in-Ok.ensures.program, c.in-Ok.ensures.table, c.behind-at.ensures, c.in-Ok.ensures.part) at c.in-Err.ensures.long in
    let at_read = rw (c.in-Ok.ensures.program, c.in-Ok.ensures.table, c.behind-at.ensures, c.in-Ok.ensures.part) at c.in-Err.ensures.stopped_at_read in
    let at_length = rw (c.in-Ok.ensures.program, c.in-Ok.ensures.table, c.behind-at.ensures, c.in-Ok.ensures.part) at c.in-Err.ensures.stopped_at_length in
    let stands = c.in-Ok.ensures.stands in
    rw c.status_of_fault.ensures (run_failed g.E.Engine.gives g.E.Engine.fires g.E.Engine.counts name image c.args.limit c.args.program c.args.lives c.args.beginning first last _ _ _ _ _ _ _ _ _ _ c.requires.lives c.in-Ok.ensures.fits c.in-Err.fault
    (λ w begins. front w (stands w begins)) c.in-Err.ensures.taken (λ is. c.in-Err.ensures.read (ap failing is)) (λ is. c.in-Err.ensures.write (ap failing is))
    (λ w begins is. long w (stands w begins) (ap failing is)) (λ is. c.in-Err.ensures.over (ap failing is))
    (λ w begins is. at_read w (stands w begins) (ap failing is)) (λ w begins is. at_length w (stands w begins) (ap failing is)))

pub returns-in-Err-Unfit-clause-run : goal.returns-in-Err-Unfit-clause-run
returns-in-Err-Unfit-clause-run g c name image first last h =
    let never = c.in-Err-Unfit.ensures.unfit (ap Err c.in-Err-Unfit.field-0-is) in
    checkpoint_done g.E.Engine.gives g.E.Engine.fires g.E.Engine.counts name Run c.args.limit image (wanted_at Run c.args.limit c.args.beginning c.args.program) Unfit first last _ _ _ _ _ _ _ _
    (unfit_run g.E.Engine.gives g.E.Engine.fires g.E.Engine.counts c.args.limit c.args.program c.args.lives c.args.beginning c.requires.lives never)
    c.refuse_checkpoint.ensures.said c.refuse_checkpoint.ensures.front c.refuse_checkpoint.ensures.answers c.refuse_checkpoint.ensures.cause
    (refused_so c.args.limit c.args.beginning c.args.program c.args.lives _ Run image _ _ name never h)

pub returns-in-Err-NoMemory-clause-run : goal.returns-in-Err-NoMemory-clause-run
returns-in-Err-NoMemory-clause-run g c name image first last h =
    nothing_done g.E.Engine.gives g.E.Engine.fires g.E.Engine.counts _ _ first last _ _ _ _ _ 7 (inr (omega arith, omega arith)) (inl refl)

pub returns-in-Ok-run_from-clause-unread : goal.returns-in-Ok-run_from-clause-unread
returns-in-Ok-run_from-clause-unread g c never = absurd (never c.in-Ok.ensures.fits)

pub returns-clause-unread : goal.returns-clause-unread
returns-clause-unread g c never = absurd (never c.in-Ok.ensures.fits)

pub run_from-requires-clause-prompt : goal.run_from-requires-clause-prompt
run_from-requires-clause-prompt g c bytes now h =
    let told = rw (c.in-Ok.ensures.program, c.in-Ok.ensures.table, c.behind-at.ensures, c.in-Ok.ensures.part) at h in
    c.requires.prompt bytes now (prompt_run g.E.Engine.gives g.E.Engine.fires g.E.Engine.counts c.args.limit c.args.program c.args.lives c.requires.lives c.args.beginning bytes _ _
    (λ w begins. told w (c.in-Ok.ensures.stands w begins)))
