use Rattle.{std.proofs.Common.{inl, inr, refl, sym, arith}, line_run.proofs.Ahead.{append_nothing, if_told}, desk.specs.Meanings.{Meanings}}
use Rattle.desk.proofs.{Fronts.{no_front}, Goings.{for_all, is_going, is_prompt, is_stopped, kept_out}}
use Rattle.desk.proofs.running.run_behind.Goals as goal

pub run_by-requires-clause-prompt : goal.run_by-requires-clause-prompt
run_by-requires-clause-prompt g c bytes now h =
    let m : Meanings = record { gives = g.E.Engine.gives; fires = g.E.Engine.fires; counts = g.E.Engine.counts } in
    c.requires.prompt bytes now (is_prompt m c.args.begun c.in-Ok.going.live c.in-Ok.going.table c.in-Ok.ensures.goes bytes _ _ _ _
    (rw (c.in-Ok-write_all.ensures.ok, c.deref.ensures.value, c.in-Ok-write_all.ensures.files) at h))

pub returns-in-Ok-write_all-clause-served : goal.returns-in-Ok-write_all-clause-served
returns-in-Ok-write_all-clause-served g c =
    let m : Meanings = record { gives = g.E.Engine.gives; fires = g.E.Engine.fires; counts = g.E.Engine.counts } in
    if_told (g.S.Source.left c.args.script.now) (λ bytes h. inl (is_going m c.args.begun c.in-Ok.going.live c.in-Ok.going.table c.in-Ok.ensures.goes bytes _ _ _ _ _ h))
    (rw (c.in-Ok-write_all.ensures.ok, c.deref.ensures.value, c.in-Ok-write_all.ensures.files) at c.run_by.ensures.live)

pub returns-in-Ok-write_all-clause-stopped : goal.returns-in-Ok-write_all-clause-stopped
returns-in-Ok-write_all-clause-stopped g c five =
    let m : Meanings = record { gives = g.E.Engine.gives; fires = g.E.Engine.fires; counts = g.E.Engine.counts } in
    if_told (g.S.Source.left c.args.script.now) (λ bytes h. is_stopped m c.args.begun c.in-Ok.going.live c.in-Ok.going.table c.in-Ok.ensures.goes bytes _ _ _ _ _ h)
    (rw (c.in-Ok-write_all.ensures.ok, c.deref.ensures.value, c.in-Ok-write_all.ensures.files) at (c.run_by.ensures.stopped five))

pub returns-in-Err-Line-clause-served : goal.returns-in-Err-Line-clause-served
returns-in-Err-Line-clause-served g c =
    for_all (g.S.Source.left c.args.script.now) (λ bytes. inr (inl (kept_out c.args.begun c.in-Err-Line.line.items _ _ _ _ _
    (rw c.in-Err-Line.field-0-is at c.in-Err-Line.ensures.barred) (rw c.in-Err-Line.field-0-is at c.refuse_by.ensures.said))))

pub returns-clause-served : goal.returns-clause-served
returns-clause-served g c =
    for_all (g.S.Source.left c.args.script.now) (λ bytes. inr (inr (omega arith, omega arith, no_front _ _ (sym (append_nothing _)), refl)))
