use Rattle.{std.{proofs.Common.{◌≡◌, ◌∙◌, Err, Option, Some, None, sym, ap, arith}, specs.Prelude.{IfSome}}, checkpoint.specs.declared.image.RunPart.{RunPart}}
use Rattle.{fx_io.specs.Outside.{append}, line_run.{specs.Parts.{run_part_at}, proofs.Ahead.{if_told}}, replay.specs.Beginnings.{part_of}}
use Rattle.{script_run.specs.{Doors.{engine_of}, Live.{most_firings}}, desk.{specs.Meanings.{Meanings}, proofs.Living.{alike_front, alike_put, alike_refused}}}
use Rattle.desk.proofs.Living.{alike_stopped, ended, reached, refused, stopped, unfit, unstarted, used_up}
use Rattle.desk.proofs.live.run_by.Goals as goal

-- of each world, where something is told
each_told : {A W : Type 0} {B : W → Type 0} (P : A → W → Type 0) (o : Option A) → ((w : W) → B w → IfSome o (λ x. P x w)) → IfSome o (λ x. (w : W) → B w → P x w)
each_told P None h = tt
each_told P (Some x) h = h

both_told : {A : Type 0} (P Q : A → Type 0) (o : Option A) → IfSome o P → IfSome o Q → IfSome o (λ x. P x × Q x)
both_told P Q None h k = tt
both_told P Q (Some x) h k = (h, k)

pub returns-in-Err-Unfit-clause-live : goal.returns-in-Err-Unfit-clause-live
returns-in-Err-Unfit-clause-live g c =
    let m : Meanings = record { gives = g.E.Engine.gives; fires = g.E.Engine.fires; counts = g.E.Engine.counts } in
    unfit m c.args.live c.args.lives _ _ _ _ (g.S.Source.left c.args.script.now) c.refuse_checkpoint.result (c.in-Err-Unfit.ensures.unfit (ap Err c.in-Err-Unfit.field-0-is))
    c.refuse_checkpoint.ensures.said c.refuse_checkpoint.ensures.front c.refuse_checkpoint.ensures.files c.refuse_checkpoint.ensures.answers

pub returns-in-Err-NoMemory-clause-live : goal.returns-in-Err-NoMemory-clause-live
returns-in-Err-NoMemory-clause-live g c =
    let m : Meanings = record { gives = g.E.Engine.gives; fires = g.E.Engine.fires; counts = g.E.Engine.counts } in
    unstarted m c.args.live c.args.lives _ _ (g.S.Source.left c.args.script.now)

pub run_lines-requires-clause-prompt : goal.run_lines-requires-clause-prompt
run_lines-requires-clause-prompt g c bytes now written put =
    let n = c.in-Ok-new.ensures in
    let b = c.in-Ok.ensures in
    c.requires.prompt bytes now (λ w begins.
    let st : g.E.Engine.stands (engine_of c.in-Ok-new.taker.lines) w = rw n.engine (b.stands w begins) in (
      rw (n.engine, n.limit, n.live, n.form, n.has, b.program, b.table, c.behind-at.ensures, b.part) at (written w st),
      alike_put _ _ _ _ b.program b.table c.args.live.told (part_of c.args.live.beginning) c.args.live.image _ _ _
          (rw (n.engine, n.limit, n.live, n.form, n.has, n.first, n.image, n.told, b.program, b.table, c.behind-at.ensures, b.part) at (put w st)),
    ))

pub returns-in-Err-clause-live : goal.returns-in-Err-clause-live
returns-in-Err-clause-live g c =
    let m : Meanings = record { gives = g.E.Engine.gives; fires = g.E.Engine.fires; counts = g.E.Engine.counts } in
    unstarted m c.args.live c.args.lives _ _ (g.S.Source.left c.args.script.now)

-- ---- the run came to its end

pub returns-in-Ok-Some-clause-live : goal.returns-in-Ok-Some-clause-live
returns-in-Ok-Some-clause-live g c =
    let m : Meanings = record { gives = g.E.Engine.gives; fires = g.E.Engine.fires; counts = g.E.Engine.counts } in
    let n = c.in-Ok-new.ensures in
    let b = c.in-Ok.ensures in
    let done = rw (c.in-Ok-Some.field-0-is, n.engine, n.limit, n.live, n.form, n.has, b.program, b.table, c.behind-at.ensures, b.part) at c.in-Ok-Some.ensures.done in
    let program : g.E.Engine.made_with (engine_of c.in-Ok-Some.taker.lines) ≡ c.args.live.program = rw (c.in-Ok-Some.field-0-is, n.engine, b.program) at c.in-Ok-Some.ensures.program in
    let table : g.E.Engine.table (engine_of c.in-Ok-Some.taker.lines) ≡ c.args.lives = rw (c.in-Ok-Some.field-0-is, n.engine, b.table) at c.in-Ok-Some.ensures.table in
    ended (g.E.Engine.stands (engine_of c.in-Ok-Some.taker.lines)) m c.args.live c.args.lives _ _ _ _ _ _ c.in-Ok-Some.at c.part.result
    (c.part.ensures ∙ ap (λ (first : RunPart). run_part_at most_firings first c.in-Ok-Some.at) b.part) done.0 done.1 (g.S.Source.left c.args.script.now) c.end.result b.fits (λ w begins.
    let st : g.E.Engine.stands (engine_of c.in-Ok-new.taker.lines) w = rw n.engine (b.stands w begins) in
    both_told _ _ (g.S.Source.left c.args.script.now) (if_told (g.S.Source.left c.args.script.now) (λ bytes d. (d.0, d.1, reached _ c.in-Ok-Some.taker c.in-Ok-Some.at _ d.2)) (done.2 w (b.stands w begins)))
    (if_told (g.S.Source.left c.args.script.now) (λ bytes k. alike_put _ _ _ _ b.program b.table c.args.live.told (part_of c.args.live.beginning) c.args.live.image _ _ _ k)
    (rw (n.engine, n.limit, n.live, n.form, n.has, n.first, n.image, n.told, b.program, b.table, c.behind-at.ensures, b.part) at (c.in-Ok-Some.ensures.kept w st))))
    (rw (c.into_engine-engine.ensures, program, table) at c.end.ensures.ended) (rw (c.into_engine-engine.ensures, program, table) at c.end.ensures.refused) c.end.ensures.stays
    (rw (c.into_engine-engine.ensures, program, table) at c.end.ensures.failed) c.end.ensures.answers

pub returns-in-Ok-None-clause-live : goal.returns-in-Ok-None-clause-live
returns-in-Ok-None-clause-live g c =
    let m : Meanings = record { gives = g.E.Engine.gives; fires = g.E.Engine.fires; counts = g.E.Engine.counts } in
    let n = c.in-Ok-new.ensures in
    let b = c.in-Ok.ensures in
    let done = rw (c.in-Ok-None.field-0-is, n.engine, n.limit, n.live, n.form, n.has, b.program, b.table, c.behind-at.ensures, b.part) at c.in-Ok-None.ensures.done in
    used_up m c.args.live c.args.lives _ _ _ _ (g.S.Source.left c.args.script.now) b.fits (λ w begins.
    let st : g.E.Engine.stands (engine_of c.in-Ok-new.taker.lines) w = rw n.engine (b.stands w begins) in
    if_told (g.S.Source.left c.args.script.now) (λ bytes d. (done.1 ∙ ap (append (g.K.Sink.written c.args.out.now)) d.0.0, sym d.0.1, d.1))
    (both_told _ _ (g.S.Source.left c.args.script.now) (done.2 w (b.stands w begins))
    (if_told (g.S.Source.left c.args.script.now) (λ bytes k. alike_put _ _ _ _ b.program b.table c.args.live.told (part_of c.args.live.beginning) c.args.live.image _ _ _ k)
    (rw (n.engine, n.limit, n.live, n.form, n.has, n.first, n.image, n.told, b.program, b.table, c.behind-at.ensures, b.part) at (c.in-Ok-None.ensures.kept w st)))))

-- ---- it stopped before

pub returns-in-Err-ReadFault-clause-live : goal.returns-in-Err-ReadFault-clause-live
returns-in-Err-ReadFault-clause-live g c =
    let m : Meanings = record { gives = g.E.Engine.gives; fires = g.E.Engine.fires; counts = g.E.Engine.counts } in
    let n = c.in-Ok-new.ensures in
    let b = c.in-Ok.ensures in
    stopped m c.args.live c.args.lives _ _ _ _ (g.S.Source.left c.args.script.now) 5 (omega arith) (omega arith) b.fits (λ w begins.
    let st : g.E.Engine.stands (engine_of c.in-Ok-new.taker.lines) w = rw n.engine (b.stands w begins) in
    if_told (g.S.Source.left c.args.script.now) (λ bytes k. alike_front _ _ _ _ b.program b.table c.args.live.told (part_of c.args.live.beginning) c.args.live.image _ _ bytes _ _ _ _ k)
    (rw (n.engine, n.limit, n.live, n.form, n.has, n.first, n.image, n.told, b.program, b.table, c.behind-at.ensures, b.part) at (c.in-Err-ReadFault.ensures.kept_front w st)))

pub returns-in-Err-WriteFault-clause-live : goal.returns-in-Err-WriteFault-clause-live
returns-in-Err-WriteFault-clause-live g c =
    let m : Meanings = record { gives = g.E.Engine.gives; fires = g.E.Engine.fires; counts = g.E.Engine.counts } in
    let n = c.in-Ok-new.ensures in
    let b = c.in-Ok.ensures in
    stopped m c.args.live c.args.lives _ _ _ _ (g.S.Source.left c.args.script.now) 6 (omega arith) (omega arith) b.fits (λ w begins.
    let st : g.E.Engine.stands (engine_of c.in-Ok-new.taker.lines) w = rw n.engine (b.stands w begins) in
    if_told (g.S.Source.left c.args.script.now) (λ bytes k. alike_front _ _ _ _ b.program b.table c.args.live.told (part_of c.args.live.beginning) c.args.live.image _ _ bytes _ _ _ _ k)
    (rw (n.engine, n.limit, n.live, n.form, n.has, n.first, n.image, n.told, b.program, b.table, c.behind-at.ensures, b.part) at (c.in-Err-WriteFault.ensures.kept_front w st)))

pub returns-in-Err-NoMemory-run_lines-clause-live : goal.returns-in-Err-NoMemory-run_lines-clause-live
returns-in-Err-NoMemory-run_lines-clause-live g c =
    let m : Meanings = record { gives = g.E.Engine.gives; fires = g.E.Engine.fires; counts = g.E.Engine.counts } in
    let n = c.in-Ok-new.ensures in
    let b = c.in-Ok.ensures in
    stopped m c.args.live c.args.lives _ _ _ _ (g.S.Source.left c.args.script.now) 7 (omega arith) (omega arith) b.fits (λ w begins.
    let st : g.E.Engine.stands (engine_of c.in-Ok-new.taker.lines) w = rw n.engine (b.stands w begins) in
    if_told (g.S.Source.left c.args.script.now) (λ bytes k. alike_front _ _ _ _ b.program b.table c.args.live.told (part_of c.args.live.beginning) c.args.live.image _ _ bytes _ _ _ _ k)
    (rw (n.engine, n.limit, n.live, n.form, n.has, n.first, n.image, n.told, b.program, b.table, c.behind-at.ensures, b.part) at (c.in-Err-NoMemory-run_lines.ensures.kept_front w st)))

pub returns-in-Err-ScriptLong-clause-live : goal.returns-in-Err-ScriptLong-clause-live
returns-in-Err-ScriptLong-clause-live g c =
    let m : Meanings = record { gives = g.E.Engine.gives; fires = g.E.Engine.fires; counts = g.E.Engine.counts } in
    let n = c.in-Ok-new.ensures in
    let b = c.in-Ok.ensures in
    stopped m c.args.live c.args.lives _ _ _ _ (g.S.Source.left c.args.script.now) 8 (omega arith) (omega arith) b.fits (λ w begins.
    let st : g.E.Engine.stands (engine_of c.in-Ok-new.taker.lines) w = rw n.engine (b.stands w begins) in
    if_told (g.S.Source.left c.args.script.now) (λ bytes k. alike_front _ _ _ _ b.program b.table c.args.live.told (part_of c.args.live.beginning) c.args.live.image _ _ bytes _ _ _ _ k)
    (rw (n.engine, n.limit, n.live, n.form, n.has, n.first, n.image, n.told, b.program, b.table, c.behind-at.ensures, b.part) at (c.in-Err-ScriptLong.ensures.kept_front w st)))

pub returns-clause-live : goal.returns-clause-live
returns-clause-live g c =
    let m : Meanings = record { gives = g.E.Engine.gives; fires = g.E.Engine.fires; counts = g.E.Engine.counts } in
    let n = c.in-Ok-new.ensures in
    let b = c.in-Ok.ensures in
    rw c.refuse_checkpoint-in-Err-Refused.ensures.files
    (refused m c.args.live c.args.lives _ _ _ _ _ c.in-Err-Refused.why (g.S.Source.left c.args.script.now) c.refuse_checkpoint-in-Err-Refused.result b.fits (λ w begins.
    let st : g.E.Engine.stands (engine_of c.in-Ok-new.taker.lines) w = rw n.engine (b.stands w begins) in
    if_told (g.S.Source.left c.args.script.now) (λ bytes k. alike_refused _ _ _ _ b.program b.table c.args.live.told (part_of c.args.live.beginning) c.args.live.image c.in-Err-Refused.why _ _ _ bytes _ _ _ _ k)
    (rw (n.engine, n.limit, n.live, n.form, n.has, n.first, n.image, n.told, b.program, b.table, c.behind-at.ensures, b.part) at (c.in-Err-Refused.ensures.refused w st c.in-Err-Refused.why (ap Err c.in-Err-Refused.field-0-is))))
    (rw c.refusal_code.ensures at c.refuse_checkpoint-in-Err-Refused.ensures.said) (rw c.refusal_code.ensures at c.refuse_checkpoint-in-Err-Refused.ensures.front) c.refuse_checkpoint-in-Err-Refused.ensures.answers)

pub returns-in-Err-ReadFault-clause-stopped : goal.returns-in-Err-ReadFault-clause-stopped
returns-in-Err-ReadFault-clause-stopped g c five =
    let m : Meanings = record { gives = g.E.Engine.gives; fires = g.E.Engine.fires; counts = g.E.Engine.counts } in
    let n = c.in-Ok-new.ensures in
    let b = c.in-Ok.ensures in
    each_told _ (g.S.Source.left c.args.script.now) (λ w begins.
    let st : g.E.Engine.stands (engine_of c.in-Ok-new.taker.lines) w = rw n.engine (b.stands w begins) in
    if_told (g.S.Source.left c.args.script.now) (λ bytes k. alike_stopped _ _ _ _ b.program b.table c.args.live.told (part_of c.args.live.beginning) c.args.live.image _ _ bytes _ _ _ _ _ k)
    (rw (n.engine, n.limit, n.live, n.form, n.has, n.first, n.image, n.told, b.program, b.table, c.behind-at.ensures, b.part) at (c.in-Err-ReadFault.ensures.kept_at_read w st (ap Err c.in-Err-ReadFault.field-0-is))))
