use Rattle.{std.proofs.Common.{Option, subst, arith}, command_words.specs.declared.desk.DeskWords.{DeskWords}, desk.specs.{Meanings.{both}, Report.{IsPrompt}}}
use Rattle.desk.{specs.{Report.{IsServed, IsStopped, usage}, Wanted.{help, version, wanted, wanted_by}}, proofs.Said.{said}}
use Rattle.desk.proofs.serving.desk.Goals as goal

pub serve-requires : goal.serve-requires
unfolding wanted
serve-requires g c =
    let asks = rw (c.in-Ok-Some-Run.field-0-is, c.in-Ok-Some-Run.field-0-0-is) at c.in-Ok-Some-Run.ensures.asks in
    record {
      prompt = λ bytes now h. c.requires.prompt bytes now (λ files told.
          subst (λ (asked : Option DeskWords). IsPrompt (both g.E.Engine.gives g.E.Engine.fires g.E.Engine.counts g.D.Engine.gives g.D.Engine.fires g.D.Engine.counts) (wanted_by asked files) bytes (g.K.Sink.written c.args.out.now) (g.K.Sink.written now) (g.K.Sink.files c.args.out.now) (g.K.Sink.files now)) asks (h files told));
    }

pub returns-in-Ok-Some-Run-clause-served : goal.returns-in-Ok-Some-Run-clause-served
unfolding wanted
returns-in-Ok-Some-Run-clause-served g c files bytes told script =
    let asks = rw (c.in-Ok-Some-Run.field-0-is, c.in-Ok-Some-Run.field-0-0-is) at c.in-Ok-Some-Run.ensures.asks in
    subst (λ (asked : Option DeskWords). IsServed (both g.E.Engine.gives g.E.Engine.fires g.E.Engine.counts g.D.Engine.gives g.D.Engine.fires g.D.Engine.counts) (wanted_by asked files) bytes (g.K.Sink.written c.args.out.now) (g.K.Sink.written c.serve.new.out)
    (g.K.Sink.files c.args.out.now) (g.K.Sink.files c.serve.new.out) c.serve.result) asks (c.serve.ensures.served files bytes told script)

pub returns-in-Ok-Some-Run-clause-stopped : goal.returns-in-Ok-Some-Run-clause-stopped
unfolding wanted
returns-in-Ok-Some-Run-clause-stopped g c files bytes told script five =
    let asks = rw (c.in-Ok-Some-Run.field-0-is, c.in-Ok-Some-Run.field-0-0-is) at c.in-Ok-Some-Run.ensures.asks in
    subst (λ (asked : Option DeskWords). IsStopped (both g.E.Engine.gives g.E.Engine.fires g.E.Engine.counts g.D.Engine.gives g.D.Engine.fires g.D.Engine.counts) (wanted_by asked files) bytes (g.S.Source.left c.serve.new.script) (g.K.Sink.written c.args.out.now) (g.K.Sink.written c.serve.new.out) (g.K.Sink.files c.args.out.now) (g.K.Sink.files c.serve.new.out)) asks
    (c.serve.ensures.stopped files bytes told script five)

pub returns-in-Ok-Some-Help-clause-served : goal.returns-in-Ok-Some-Help-clause-served
unfolding wanted
returns-in-Ok-Some-Help-clause-served g c files bytes told script =
    let asks = rw (c.in-Ok-Some-Help.field-0-is, c.in-Ok-Some-Help.field-0-0-is) at c.in-Ok-Some-Help.ensures.asks in
    let before = g.K.Sink.written c.args.out.now in
    let after = g.K.Sink.written c.say.new.out in
    subst (λ (asked : Option DeskWords). IsServed (both g.E.Engine.gives g.E.Engine.fires g.E.Engine.counts g.D.Engine.gives g.D.Engine.fires g.D.Engine.counts) (wanted_by asked files) bytes before after (g.K.Sink.files c.args.out.now) (g.K.Sink.files c.say.new.out) c.say.result) asks
    (said help 0 before after _ _ c.say.result c.say.ensures.files (λ zero. (c.say.ensures.said (omega (arith, zero))).0) c.say.ensures.front (grind (arith, c.say.ensures.either)))

pub returns-in-Ok-Some-Version-clause-served : goal.returns-in-Ok-Some-Version-clause-served
unfolding wanted
returns-in-Ok-Some-Version-clause-served g c files bytes told script =
    let asks = rw (c.in-Ok-Some-Version.field-0-is, c.in-Ok-Some-Version.field-0-0-is) at c.in-Ok-Some-Version.ensures.asks in
    let before = g.K.Sink.written c.args.out.now in
    let after = g.K.Sink.written c.say-in-Ok-Some-Version.new.out in
    subst (λ (asked : Option DeskWords). IsServed (both g.E.Engine.gives g.E.Engine.fires g.E.Engine.counts g.D.Engine.gives g.D.Engine.fires g.D.Engine.counts) (wanted_by asked files) bytes before after (g.K.Sink.files c.args.out.now) (g.K.Sink.files c.say-in-Ok-Some-Version.new.out) c.say-in-Ok-Some-Version.result) asks
    (said version 0 before after _ _ c.say-in-Ok-Some-Version.result c.say-in-Ok-Some-Version.ensures.files (λ zero. (c.say-in-Ok-Some-Version.ensures.said (omega (arith, zero))).0) c.say-in-Ok-Some-Version.ensures.front (grind (arith, c.say-in-Ok-Some-Version.ensures.either)))

pub returns-in-Ok-None-clause-served : goal.returns-in-Ok-None-clause-served
unfolding wanted
returns-in-Ok-None-clause-served g c files bytes told script =
    let asks = rw c.in-Ok-None.field-0-is at c.in-Ok-None.ensures.asks in
    let before = g.K.Sink.written c.args.out.now in
    let after = g.K.Sink.written c.say-in-Ok-None.new.out in
    subst (λ (asked : Option DeskWords). IsServed (both g.E.Engine.gives g.E.Engine.fires g.E.Engine.counts g.D.Engine.gives g.D.Engine.fires g.D.Engine.counts) (wanted_by asked files) bytes before after (g.K.Sink.files c.args.out.now) (g.K.Sink.files c.say-in-Ok-None.new.out) c.say-in-Ok-None.result) asks
    (said usage 2 before after _ _ c.say-in-Ok-None.result c.say-in-Ok-None.ensures.files (λ two. (c.say-in-Ok-None.ensures.said (omega (arith, two))).0) c.say-in-Ok-None.ensures.front (grind (arith, c.say-in-Ok-None.ensures.either)))
