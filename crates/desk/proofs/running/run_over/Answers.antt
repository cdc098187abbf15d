use Rattle.{std.{proofs.Common.{ℕ, List, inl, inr, refl, sym, subst, arith}, specs.Prelude.{IfSome}}, fx_io.specs.Outside.{append}}
use Rattle.{line_run.proofs.Ahead.{if_told}, replay.specs.{Checkpoints.{checkpoint_text}, declared.refused_checkpoint.CheckpointCode.TheVariants.{Unfit}}}
use Rattle.{rule_world.specs.Programs.{IsRunnable}, desk.specs.{declared.wanted.Begun.{Begun}, Meanings.{Meanings}, Report.{IsPromptRun, IsSaid, IsStoppedRun}}}
use Rattle.desk.proofs.{Goings.{GoesBehind, by_change, for_all}, Said.{said}}
use Rattle.desk.proofs.running.run_over.Goals as goal

pub run_behind-requires : goal.run_behind-requires
run_behind-requires g c =
    let m : Meanings = record { gives = g.E.Engine.gives; fires = g.E.Engine.fires; counts = g.E.Engine.counts } in
    let ch = c.args.changing in
    let taken = rw c.in-Ok-Taken.field-0-is at c.in-Ok-Taken.ensures in
    record {
      runnable = subst (λ (b : Begun). IsRunnable b.setting.program) (sym taken.1) c.requires.runnable;
      later = subst (λ (b : Begun). IfSome b.setting.later IsRunnable) (sym taken.1) c.requires.later;
      prompt = λ bytes now h. c.requires.prompt bytes now taken.0
          (by_change m ch c.in-Ok-Taken.begun c.in-Ok-Taken.lines.items taken.0 taken.1 taken.2
          (λ (b : Begun) (lines : List ℕ). IsPromptRun m b bytes (append (g.K.Sink.written c.args.out.now) lines) (g.K.Sink.written now)
          (g.K.Sink.files c.args.out.now) (g.K.Sink.files now)) h);
    }

pub returns-in-Ok-Taken-clause-served : goal.returns-in-Ok-Taken-clause-served
returns-in-Ok-Taken-clause-served g c =
    let m : Meanings = record { gives = g.E.Engine.gives; fires = g.E.Engine.fires; counts = g.E.Engine.counts } in
    let ch = c.args.changing in
    let taken = rw c.in-Ok-Taken.field-0-is at c.in-Ok-Taken.ensures in
    if_told (g.S.Source.left c.args.script.now) (λ bytes h. inl (
      taken.0,
      by_change m ch c.in-Ok-Taken.begun c.in-Ok-Taken.lines.items taken.0 taken.1 taken.2
          (GoesBehind m bytes (g.K.Sink.written c.args.out.now) (g.K.Sink.written c.run_behind.new.out) (g.K.Sink.files c.args.out.now)
          (g.K.Sink.files c.run_behind.new.out) c.run_behind.result) h,
    ))
    c.run_behind.ensures.served

pub returns-in-Ok-Taken-clause-stopped : goal.returns-in-Ok-Taken-clause-stopped
returns-in-Ok-Taken-clause-stopped g c five =
    let m : Meanings = record { gives = g.E.Engine.gives; fires = g.E.Engine.fires; counts = g.E.Engine.counts } in
    let ch = c.args.changing in
    let taken = rw c.in-Ok-Taken.field-0-is at c.in-Ok-Taken.ensures in
    if_told (g.S.Source.left c.args.script.now) (λ bytes h. (
      taken.0,
      by_change m ch c.in-Ok-Taken.begun c.in-Ok-Taken.lines.items taken.0 taken.1 taken.2
          (λ (b : Begun) (lines : List ℕ). IsStoppedRun m b bytes (g.S.Source.left c.run_behind.new.script) (append (g.K.Sink.written c.args.out.now) lines)
          (g.K.Sink.written c.run_behind.new.out) (g.K.Sink.files c.args.out.now) (g.K.Sink.files c.run_behind.new.out)) h,
    ))
    (c.run_behind.ensures.stopped five)

pub returns-in-Ok-Refused-clause-served : goal.returns-in-Ok-Refused-clause-served
returns-in-Ok-Refused-clause-served g c =
    let refused = rw c.in-Ok-Refused.field-0-is at c.in-Ok-Refused.ensures in
    for_all (g.S.Source.left c.args.script.now) (λ bytes. inr (inl (inl (
      refused.0,
      refused.1,
      subst (λ (line : List ℕ). IsSaid line 9 (g.K.Sink.written c.args.out.now) (g.K.Sink.written c.refuse_by.new.out) (g.K.Sink.files c.args.out.now)
          (g.K.Sink.files c.refuse_by.new.out) c.refuse_by.result) refused.2 c.refuse_by.ensures.said,
    ))))

pub returns-in-Ok-Unfit-clause-served : goal.returns-in-Ok-Unfit-clause-served
returns-in-Ok-Unfit-clause-served g c =
    for_all (g.S.Source.left c.args.script.now) (λ bytes. inr (inl (inr (
      rw c.in-Ok-Unfit.field-0-is at c.in-Ok-Unfit.ensures,
      said (checkpoint_text Unfit) 9 _ _ _ _ c.refuse_checkpoint.result c.refuse_checkpoint.ensures.files c.refuse_checkpoint.ensures.said
          c.refuse_checkpoint.ensures.front c.refuse_checkpoint.ensures.answers,
    ))))

pub returns-in-Err-clause-served : goal.returns-in-Err-clause-served
returns-in-Err-clause-served g c = for_all (g.S.Source.left c.args.script.now) (λ bytes. inr (inr (omega arith, omega arith, refl, refl)))
