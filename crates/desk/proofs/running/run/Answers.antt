use Rattle.{std.proofs.Common.{inl, inr, refl, arith}, line_run.proofs.Ahead.{if_told}, desk.{specs.Meanings.{Meanings}, proofs.Goings.{for_all, is_going}}}
use Rattle.desk.proofs.Goings.{is_prompt, is_stopped, kept_out}
use Rattle.desk.proofs.running.run.Goals as goal

pub run_by-requires-clause-prompt : goal.run_by-requires-clause-prompt
run_by-requires-clause-prompt g c bytes now h =
    let m : Meanings = record { gives = g.E.Engine.gives; fires = g.E.Engine.fires; counts = g.E.Engine.counts } in
    c.requires.prompt bytes now (is_prompt m c.args.begun c.in-Ok.going.live c.in-Ok.going.table c.in-Ok.ensures.goes bytes _ _ _ _ h)

pub returns-in-Ok-clause-served : goal.returns-in-Ok-clause-served
returns-in-Ok-clause-served g c =
    let m : Meanings = record { gives = g.E.Engine.gives; fires = g.E.Engine.fires; counts = g.E.Engine.counts } in
    if_told (g.S.Source.left c.args.script.now) (λ bytes h. inl (is_going m c.args.begun c.in-Ok.going.live c.in-Ok.going.table c.in-Ok.ensures.goes bytes _ _ _ _ _ h)) c.run_by.ensures.live

pub returns-in-Ok-clause-stopped : goal.returns-in-Ok-clause-stopped
returns-in-Ok-clause-stopped g c five =
    let m : Meanings = record { gives = g.E.Engine.gives; fires = g.E.Engine.fires; counts = g.E.Engine.counts } in
    if_told (g.S.Source.left c.args.script.now) (λ bytes h. is_stopped m c.args.begun c.in-Ok.going.live c.in-Ok.going.table c.in-Ok.ensures.goes bytes _ _ _ _ _ h)
    (c.run_by.ensures.stopped five)

pub returns-in-Err-Line-clause-served : goal.returns-in-Err-Line-clause-served
returns-in-Err-Line-clause-served g c =
    for_all (g.S.Source.left c.args.script.now) (λ bytes. inr (inl (kept_out c.args.begun c.in-Err-Line.line.items _ _ _ _ _
    (rw c.in-Err-Line.field-0-is at c.in-Err-Line.ensures.barred) (rw c.in-Err-Line.field-0-is at c.refuse_by.ensures.said))))

pub returns-in-Err-NoMemory-clause-served : goal.returns-in-Err-NoMemory-clause-served
returns-in-Err-NoMemory-clause-served g c =
    for_all (g.S.Source.left c.args.script.now) (λ bytes. inr (inr (omega arith, omega arith, refl, refl)))
