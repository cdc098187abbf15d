use Rattle.{std.{proofs.Common.{inl, sym, subst}, specs.Prelude.{IfSome}}, line_run.proofs.Ahead.{if_told}, script_run.specs.declared.form.Form.{Form}}
use Rattle.desk.specs.{Meanings.{both, meanings}, Report.{IsRun, IsStoppedRun}}
use Rattle.desk.proofs.serving.run_by_form.Goals as goal

pub returns-in-Text-clause-served : goal.returns-in-Text-clause-served
returns-in-Text-clause-served g c =
    subst (λ (form : Form). IfSome (g.S.Source.left c.args.script.now) (λ bytes. IsRun (meanings (both g.E.Engine.gives g.E.Engine.fires g.E.Engine.counts g.D.Engine.gives g.D.Engine.fires g.D.Engine.counts) form) c.args.begun bytes
    (g.K.Sink.written c.args.out.now) (g.K.Sink.written c.run.new.out) (g.K.Sink.files c.args.out.now) (g.K.Sink.files c.run.new.out) c.run.result)) (sym c.in-Text.is)
    c.run.ensures.served

pub returns-in-Text-clause-stopped : goal.returns-in-Text-clause-stopped
returns-in-Text-clause-stopped g c five =
    if_told (g.S.Source.left c.args.script.now) (λ bytes h. inl h)
    (subst (λ (form : Form). IfSome (g.S.Source.left c.args.script.now) (λ bytes. IsStoppedRun (meanings (both g.E.Engine.gives g.E.Engine.fires g.E.Engine.counts g.D.Engine.gives g.D.Engine.fires g.D.Engine.counts) form) c.args.begun bytes (g.S.Source.left c.run.new.script) (g.K.Sink.written c.args.out.now) (g.K.Sink.written c.run.new.out)
    (g.K.Sink.files c.args.out.now) (g.K.Sink.files c.run.new.out)))
    (sym c.in-Text.is) (c.run.ensures.stopped five))

pub returns-in-Objects-clause-served : goal.returns-in-Objects-clause-served
returns-in-Objects-clause-served g c =
    subst (λ (form : Form). IfSome (g.S.Source.left c.args.script.now) (λ bytes. IsRun (meanings (both g.E.Engine.gives g.E.Engine.fires g.E.Engine.counts g.D.Engine.gives g.D.Engine.fires g.D.Engine.counts) form) c.args.begun bytes
    (g.K.Sink.written c.args.out.now) (g.K.Sink.written c.run-in-Objects.new.out) (g.K.Sink.files c.args.out.now) (g.K.Sink.files c.run-in-Objects.new.out) c.run-in-Objects.result)) (sym c.in-Objects.is)
    c.run-in-Objects.ensures.served

pub returns-in-Objects-clause-stopped : goal.returns-in-Objects-clause-stopped
returns-in-Objects-clause-stopped g c five =
    if_told (g.S.Source.left c.args.script.now) (λ bytes h. inl h)
    (subst (λ (form : Form). IfSome (g.S.Source.left c.args.script.now) (λ bytes. IsStoppedRun (meanings (both g.E.Engine.gives g.E.Engine.fires g.E.Engine.counts g.D.Engine.gives g.D.Engine.fires g.D.Engine.counts) form) c.args.begun bytes (g.S.Source.left c.run-in-Objects.new.script) (g.K.Sink.written c.args.out.now) (g.K.Sink.written c.run-in-Objects.new.out)
    (g.K.Sink.files c.args.out.now) (g.K.Sink.files c.run-in-Objects.new.out)))
    (sym c.in-Objects.is) (c.run-in-Objects.ensures.stopped five))
