use Rattle.std.{proofs.Common.{Err, ap, sym, subst, arith}, specs.Prelude.{IfSome}}
use Rattle.{replay.specs.{declared.refused_checkpoint.CheckpointCode.TheVariants.{Unfit}, Checkpoints.{checkpoint_text}}, desk.specs.Meanings.{both}}
use Rattle.desk.{specs.{Report.{IsPrompt, IsServed, IsStopped}, Wanted.{Wanted, over_old}}, proofs.{Goings.{for_all}, Said.{said, unbegun}}}
use Rattle.desk.proofs.serving.run_changed.Goals as goal

pub run_over_by_form-requires-clause-prompt : goal.run_over_by_form-requires-clause-prompt
run_over_by_form-requires-clause-prompt g c bytes now h =
    let is = rw c.as_slice.ensures at c.in-Ok.ensures.accepted.program in
    c.requires.prompt bytes now (subst (λ (w : Wanted). IsPrompt (both g.E.Engine.gives g.E.Engine.fires g.E.Engine.counts g.D.Engine.gives g.D.Engine.fires g.D.Engine.counts) w bytes (g.K.Sink.written c.args.out.now) (g.K.Sink.written now)
    (g.K.Sink.files c.args.out.now) (g.K.Sink.files now)) (sym (ap (over_old c.args.setting c.args.rules c.args.lives c.args.image) is)) h)

pub returns-in-Ok-clause-served : goal.returns-in-Ok-clause-served
returns-in-Ok-clause-served g c =
    let is = rw c.as_slice.ensures at c.in-Ok.ensures.accepted.program in
    subst (λ (w : Wanted). IfSome (g.S.Source.left c.args.script.now) (λ bytes. IsServed (both g.E.Engine.gives g.E.Engine.fires g.E.Engine.counts g.D.Engine.gives g.D.Engine.fires g.D.Engine.counts) w bytes (g.K.Sink.written c.args.out.now)
    (g.K.Sink.written c.run_over_by_form.new.out) (g.K.Sink.files c.args.out.now) (g.K.Sink.files c.run_over_by_form.new.out) c.run_over_by_form.result))
    (sym (ap (over_old c.args.setting c.args.rules c.args.lives c.args.image) is)) c.run_over_by_form.ensures.served

pub returns-in-Ok-clause-stopped : goal.returns-in-Ok-clause-stopped
returns-in-Ok-clause-stopped g c five =
    let is = rw c.as_slice.ensures at c.in-Ok.ensures.accepted.program in
    subst (λ (w : Wanted). IfSome (g.S.Source.left c.args.script.now) (λ bytes. IsStopped (both g.E.Engine.gives g.E.Engine.fires g.E.Engine.counts g.D.Engine.gives g.D.Engine.fires g.D.Engine.counts) w bytes (g.S.Source.left c.run_over_by_form.new.script)
    (g.K.Sink.written c.args.out.now) (g.K.Sink.written c.run_over_by_form.new.out) (g.K.Sink.files c.args.out.now) (g.K.Sink.files c.run_over_by_form.new.out)))
    (sym (ap (over_old c.args.setting c.args.rules c.args.lives c.args.image) is)) (c.run_over_by_form.ensures.stopped five)

pub returns-in-Err-Refused-clause-served : goal.returns-in-Err-Refused-clause-served
returns-in-Err-Refused-clause-served g c =
    let is = rw c.as_slice.ensures at (c.in-Err-Refused.ensures.refused c.in-Err-Refused.field-0-0 (ap Err c.in-Err-Refused.field-0-is)) in
    for_all (g.S.Source.left c.args.script.now) (λ bytes.
    subst (λ (w : Wanted). IsServed (both g.E.Engine.gives g.E.Engine.fires g.E.Engine.counts g.D.Engine.gives g.D.Engine.fires g.D.Engine.counts) w bytes (g.K.Sink.written c.args.out.now) (g.K.Sink.written c.refuse_checkpoint.new.out)
    (g.K.Sink.files c.args.out.now) (g.K.Sink.files c.refuse_checkpoint.new.out) c.refuse_checkpoint.result)
    (sym (ap (over_old c.args.setting c.args.rules c.args.lives c.args.image) is))
    (said (checkpoint_text Unfit) 9 _ _ _ _ c.refuse_checkpoint.result c.refuse_checkpoint.ensures.files c.refuse_checkpoint.ensures.said
    c.refuse_checkpoint.ensures.front c.refuse_checkpoint.ensures.answers))

pub returns-clause-served : goal.returns-clause-served
returns-clause-served g c = for_all (g.S.Source.left c.args.script.now) (λ bytes. unbegun _ _ bytes _ _ 7 (omega arith) (omega arith))
