use Rattle.replay.proofs.Common.{ℕ, List, true, inl, inr, refl, ap, Err, arith, Save, Script, Limit, run_on, setting_of, limit_text, lines_of, part_of, Unfit}
use Rattle.replay.proofs.{Common.{image_report, wanted_at}, Calls.{checkpoint_done, nothing_done, rose_since, says_low}, Prompting.{prompt_save}}
use Rattle.replay.proofs.Runs.{ends_limited, ends_saved, failing, image_status, limited_told, may_save, not_nine_limited, refused_so, save_done, save_failed}
use Rattle.{replay.proofs.Runs.{saved_told, unfit_save}, line_run.specs.Prompt.{heard}}
use Rattle.replay.proofs.saving.save_with_lives.Goals as goal

pub returns-in-Ok-None-clause-run : goal.returns-in-Ok-None-clause-run
returns-in-Ok-None-clause-run g c name image first last h =
    let done = rw (c.in-Ok-None.field-0-is, c.in-Ok.ensures.program, c.in-Ok.ensures.table, c.behind-at.ensures, c.in-Ok.ensures.part) at c.in-Ok-None.ensures.done in
    save_done g.E.Engine.gives g.E.Engine.fires g.E.Engine.counts name image c.args.limit c.args.program c.args.lives c.args.beginning first last _ _ _ _ _ _ _ _ _ _ c.requires.lives c.in-Ok.ensures.fits Limit _
    (inl (
      record { bytes = limit_text c.args.limit; status = 4 },
      inl (inr refl),
      (λ w begins. limited_told c.args.program c.args.lives c.args.limit (part_of c.args.beginning) g.E.Engine.stands
          (λ (bytes : List ℕ). heard true (run_on (setting_of g.E.Engine.gives g.E.Engine.fires g.E.Engine.counts c.args.limit c.args.program c.args.lives) w (part_of c.args.beginning) (lines_of bytes))) _ _ _ (done.2 w (c.in-Ok.ensures.stands w begins))),
      says_low _ _ _ _ (rw (c.run_from.ensures.quiet refl) at c.say_limit.ensures.said) (rw (c.run_from.ensures.quiet refl) at c.say_limit.ensures.front) (not_nine_limited _ c.say_limit.ensures.answers),
    ))
    (ends_limited c.say_limit.ensures.answers) (λ six. rose_since c.run_from.ensures.out_counts (c.say_limit.ensures.cause six)) (may_save _ _ _ name c.args.limit image c.args.beginning h)
    (rw c.in-Ok-None.field-0-is at c.in-Ok-None.ensures.taken) (rw c.in-Ok-None.field-0-is at c.in-Ok-None.ensures.nothing_left)

pub returns-in-Ok-Some-clause-run : goal.returns-in-Ok-Some-clause-run
returns-in-Ok-Some-clause-run g c name image first last h =
    let done = rw (c.in-Ok-Some.field-0-is, c.in-Ok.ensures.program, c.in-Ok.ensures.table, c.behind-at.ensures, c.in-Ok.ensures.part) at c.in-Ok-Some.ensures.done in
    let program = rw (c.in-Ok-Some.field-0-is, c.in-Ok.ensures.program) at c.in-Ok-Some.ensures.program in
    let table = rw (c.in-Ok-Some.field-0-is, c.in-Ok.ensures.table) at c.in-Ok-Some.ensures.table in
    let said = rw (program, table, c.part.ensures, c.in-Ok.ensures.part, c.run_from.ensures.quiet refl) at c.write_image.ensures.said in
    save_done g.E.Engine.gives g.E.Engine.fires g.E.Engine.counts name image c.args.limit c.args.program c.args.lives c.args.beginning first last _ _ _ _ _ _ _ _ _ _ c.requires.lives c.in-Ok.ensures.fits
    (Script c.in-Ok-Some.at.faulted) _
    (elim said [
      | inl nothing ↦ inr nothing
      | inr it ↦ inl (
        image_report it.0,
        image_status it.0,
        (λ w begins. saved_told c.args.program c.args.lives c.args.limit (part_of c.args.beginning) g.E.Engine.stands c.in-Ok-Some.engine c.in-Ok-Some.at it.0
            (λ (bytes : List ℕ). heard true (run_on (setting_of g.E.Engine.gives g.E.Engine.fires g.E.Engine.counts c.args.limit c.args.program c.args.lives) w (part_of c.args.beginning) (lines_of bytes))) _ _ _ it.1 it.2 it.3 (done.2 w (c.in-Ok.ensures.stands w begins))),
        it.4,
      )
    ])
    (ends_saved c.in-Ok-Some.at.faulted c.write_image.ensures.answers) (λ six. rose_since c.run_from.ensures.out_counts (c.write_image.ensures.cause six)) (may_save _ _ _ name c.args.limit image c.args.beginning h)
    (rw c.in-Ok-Some.field-0-is at c.in-Ok-Some.ensures.taken) (rw c.in-Ok-Some.field-0-is at c.in-Ok-Some.ensures.nothing_left)

pub returns-in-Err-clause-run : goal.returns-in-Err-clause-run
returns-in-Err-clause-run g c name image first last h =
    let long = rw (c.in-Ok.ensures.program, c.in-Ok.ensures.table, c.behind-at.ensures, c.in-Ok.ensures.part) at c.in-Err.ensures.long in
    rw c.status_of_fault.ensures (save_failed g.E.Engine.gives g.E.Engine.fires g.E.Engine.counts name image c.args.limit c.args.program c.args.lives c.args.beginning first last _ _ _ _ _ _ _ _ _ _ c.requires.lives c.in-Ok.ensures.fits c.in-Err.fault
    (c.run_from.ensures.quiet refl) c.in-Err.ensures.taken (λ is. c.in-Err.ensures.read (ap failing is)) (λ is. c.in-Err.ensures.write (ap failing is))
    (λ w begins is. long w (c.in-Ok.ensures.stands w begins) (ap failing is)) (λ is. c.in-Err.ensures.over (ap failing is)))

pub returns-in-Err-Unfit-clause-run : goal.returns-in-Err-Unfit-clause-run
returns-in-Err-Unfit-clause-run g c name image first last h =
    let never = c.in-Err-Unfit.ensures.unfit (ap Err c.in-Err-Unfit.field-0-is) in
    checkpoint_done g.E.Engine.gives g.E.Engine.fires g.E.Engine.counts name Save c.args.limit image (wanted_at Save c.args.limit c.args.beginning c.args.program) Unfit first last _ _ _ _ _ _ _ _
    (unfit_save g.E.Engine.gives g.E.Engine.fires g.E.Engine.counts c.args.limit c.args.program c.args.lives c.args.beginning c.requires.lives never)
    c.refuse_checkpoint.ensures.said c.refuse_checkpoint.ensures.front c.refuse_checkpoint.ensures.answers c.refuse_checkpoint.ensures.cause
    (refused_so c.args.limit c.args.beginning c.args.program c.args.lives _ Save image _ _ name never h)

pub returns-in-Err-NoMemory-clause-run : goal.returns-in-Err-NoMemory-clause-run
returns-in-Err-NoMemory-clause-run g c name image first last h =
    nothing_done g.E.Engine.gives g.E.Engine.fires g.E.Engine.counts _ _ first last _ _ _ _ _ 7 (inr (omega arith, omega arith)) (inl refl)

pub returns-in-Ok-None-clause-unread : goal.returns-in-Ok-None-clause-unread
returns-in-Ok-None-clause-unread g c never = absurd (never c.in-Ok.ensures.fits)

pub returns-in-Ok-Some-clause-unread : goal.returns-in-Ok-Some-clause-unread
returns-in-Ok-Some-clause-unread g c never = absurd (never c.in-Ok.ensures.fits)

pub returns-in-Err-clause-unread : goal.returns-in-Err-clause-unread
returns-in-Err-clause-unread g c never = absurd (never c.in-Ok.ensures.fits)

pub run_from-requires-clause-prompt : goal.run_from-requires-clause-prompt
run_from-requires-clause-prompt g c bytes now h =
    c.requires.prompt bytes now (prompt_save g.E.Engine.gives g.E.Engine.fires g.E.Engine.counts c.args.limit c.args.program c.args.beginning bytes _ _ h)
