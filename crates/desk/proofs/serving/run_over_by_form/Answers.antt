use Rattle.{std.{proofs.Common.{inl, sym, subst}, specs.Prelude.{IfSome}}, fx_io.specs.Outside.{append}, desk.specs.Changes.{Changed, begun_over}}
use Rattle.{desk.specs.{Meanings.{both, meanings}, Report.{IsChange, IsPromptRun, IsStoppedRun}}, line_run.proofs.Ahead.{if_told}}
use Rattle.script_run.specs.declared.form.Form.{Form}
use Rattle.desk.proofs.serving.run_over_by_form.Goals as goal

pub returns-in-Text-clause-served : goal.returns-in-Text-clause-served
returns-in-Text-clause-served g c =
    subst (λ (form : Form). IfSome (g.S.Source.left c.args.script.now) (λ bytes. IsChange (meanings (both g.E.Engine.gives g.E.Engine.fires g.E.Engine.counts g.D.Engine.gives g.D.Engine.fires g.D.Engine.counts) form) c.args.changing bytes
    (g.K.Sink.written c.args.out.now) (g.K.Sink.written c.run_over.new.out) (g.K.Sink.files c.args.out.now) (g.K.Sink.files c.run_over.new.out) c.run_over.result)) (sym c.in-Text.is)
    c.run_over.ensures.served

pub returns-in-Text-clause-stopped : goal.returns-in-Text-clause-stopped
returns-in-Text-clause-stopped g c five =
    if_told (g.S.Source.left c.args.script.now) (λ bytes h. inl h)
    (subst (λ (form : Form). IfSome (g.S.Source.left c.args.script.now) (λ bytes. (to : Changed c.args.changing) × IsStoppedRun (meanings (both g.E.Engine.gives g.E.Engine.fires g.E.Engine.counts g.D.Engine.gives g.D.Engine.fires g.D.Engine.counts) form) (begun_over c.args.changing to) bytes (g.S.Source.left c.run_over.new.script)
    (append (g.K.Sink.written c.args.out.now) to.lines) (g.K.Sink.written c.run_over.new.out) (g.K.Sink.files c.args.out.now) (g.K.Sink.files c.run_over.new.out)))
    (sym c.in-Text.is) (c.run_over.ensures.stopped five))

pub returns-in-Objects-clause-served : goal.returns-in-Objects-clause-served
returns-in-Objects-clause-served g c =
    subst (λ (form : Form). IfSome (g.S.Source.left c.args.script.now) (λ bytes. IsChange (meanings (both g.E.Engine.gives g.E.Engine.fires g.E.Engine.counts g.D.Engine.gives g.D.Engine.fires g.D.Engine.counts) form) c.args.changing bytes
    (g.K.Sink.written c.args.out.now) (g.K.Sink.written c.run_over-in-Objects.new.out) (g.K.Sink.files c.args.out.now) (g.K.Sink.files c.run_over-in-Objects.new.out) c.run_over-in-Objects.result)) (sym c.in-Objects.is)
    c.run_over-in-Objects.ensures.served

pub returns-in-Objects-clause-stopped : goal.returns-in-Objects-clause-stopped
returns-in-Objects-clause-stopped g c five =
    if_told (g.S.Source.left c.args.script.now) (λ bytes h. inl h)
    (subst (λ (form : Form). IfSome (g.S.Source.left c.args.script.now) (λ bytes. (to : Changed c.args.changing) × IsStoppedRun (meanings (both g.E.Engine.gives g.E.Engine.fires g.E.Engine.counts g.D.Engine.gives g.D.Engine.fires g.D.Engine.counts) form) (begun_over c.args.changing to) bytes (g.S.Source.left c.run_over-in-Objects.new.script)
    (append (g.K.Sink.written c.args.out.now) to.lines) (g.K.Sink.written c.run_over-in-Objects.new.out) (g.K.Sink.files c.args.out.now) (g.K.Sink.files c.run_over-in-Objects.new.out)))
    (sym c.in-Objects.is) (c.run_over-in-Objects.ensures.stopped five))

pub run_over-requires-clause-prompt : goal.run_over-requires-clause-prompt
run_over-requires-clause-prompt g c bytes now to h = c.requires.prompt bytes now (
  to,
  subst (λ (form : Form). IsPromptRun (meanings (both g.E.Engine.gives g.E.Engine.fires g.E.Engine.counts g.D.Engine.gives g.D.Engine.fires g.D.Engine.counts) form) (begun_over c.args.changing to) bytes
      (append (g.K.Sink.written c.args.out.now) to.lines) (g.K.Sink.written now) (g.K.Sink.files c.args.out.now) (g.K.Sink.files now)) (sym c.in-Text.is) h,
)

pub run_over-requires-in-Objects-clause-prompt : goal.run_over-requires-in-Objects-clause-prompt
run_over-requires-in-Objects-clause-prompt g c bytes now to h = c.requires.prompt bytes now (
  to,
  subst (λ (form : Form). IsPromptRun (meanings (both g.E.Engine.gives g.E.Engine.fires g.E.Engine.counts g.D.Engine.gives g.D.Engine.fires g.D.Engine.counts) form) (begun_over c.args.changing to) bytes
      (append (g.K.Sink.written c.args.out.now) to.lines) (g.K.Sink.written now) (g.K.Sink.files c.args.out.now) (g.K.Sink.files now)) (sym c.in-Objects.is) h,
)
