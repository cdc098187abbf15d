use Rattle.replay.proofs.Common.{◌≡◌, ◌⊎◌, refl, inl, inr, ℕ, List, Option, Mode, Check, Lives, Proof, Program, Gives, Fires, Counts, accepted_text, RunsIn}
use Rattle.replay.proofs.{Common.{proof_text, IsFront, accepts, tells_lives, proves}, Calls.{mode_done, not_nine, says_low, written_as}}
use Rattle.replay.specs.Proving.{IsProofFront}
use Rattle.replay.proofs.top.do_mode.Goals as goal

proof_front : (gives : Gives) (fires : Fires) (counts : Counts) (p : Program) (script : List ℕ) (before after : Option (List ℕ)) → IsProofFront p before after
    → IsFront gives fires counts (proves p) script before after
proof_front gives fires counts p script before after (inl none) = inl none
proof_front gives fires counts p script before after (inr (table, are, certificate, good, front)) =
    inr (record { bytes = proof_text p certificate; status = 0 }, (table, are, certificate, good, refl), front)

other : (mode : Mode) → (mode ≡ Check) ⊎ (mode ≡ Lives) ⊎ (mode ≡ Proof) → RunsIn mode → ⊥
other mode (inl is) (inl run) = cc
other mode (inl is) (inr save) = cc
other mode (inr (inl is)) (inl run) = cc
other mode (inr (inl is)) (inr save) = cc
other mode (inr (inr is)) (inl run) = cc
other mode (inr (inr is)) (inr save) = cc

pub returns-in-Run-clause-run : goal.returns-in-Run-clause-run
returns-in-Run-clause-run g c name image first last h = rw c.in-Run.is (c.run_program.ensures.run name image first last (rw c.in-Run.is at h))

pub returns-in-Run-clause-no_run : goal.returns-in-Run-clause-no_run
returns-in-Run-clause-no_run g c never = absurd (never (inl c.in-Run.is))

pub returns-in-Run-clause-untouched : goal.returns-in-Run-clause-untouched
returns-in-Run-clause-untouched g c not_save nine = c.run_program.ensures.untouched nine

pub returns-in-Save-clause-run : goal.returns-in-Save-clause-run
returns-in-Save-clause-run g c name image first last h = rw c.in-Save.is (c.save_program.ensures.run name image first last (rw c.in-Save.is at h))

pub returns-in-Save-clause-no_run : goal.returns-in-Save-clause-no_run
returns-in-Save-clause-no_run g c never = absurd (never (inr c.in-Save.is))

pub returns-in-Save-clause-untouched : goal.returns-in-Save-clause-untouched
returns-in-Save-clause-untouched g c not_save nine = absurd (not_save c.in-Save.is)

pub returns-in-Check-clause-run : goal.returns-in-Check-clause-run
returns-in-Check-clause-run g c name image first last h =
    rw c.in-Check.is (mode_done g.E.Engine.gives g.E.Engine.fires g.E.Engine.counts name Check c.args.plan.limit image (accepts c.args.program) first last _ _ _ _ _ _ _ _ (other Check (inl refl))
    (λ script. written_as (record { bytes = accepted_text c.args.program; status = 0 }) refl (says_low _ _ _ _ c.accept.ensures.said c.accept.ensures.front (not_nine _ c.accept.ensures.answers)))
    c.accept.ensures.answers c.accept.ensures.cause)

pub returns-in-Lives-clause-run : goal.returns-in-Lives-clause-run
returns-in-Lives-clause-run g c name image first last h =
    rw c.in-Lives.is (mode_done g.E.Engine.gives g.E.Engine.fires g.E.Engine.counts name Lives c.args.plan.limit image (tells_lives c.args.program) first last _ _ _ _ _ _ _ _ (other Lives (inr (inl refl)))
    (λ script. record {
      exact = λ low. let said = c.tell_lives.ensures.said low in (_, (said.0, said.1, refl), (said.2, said.3));
      refused = λ nine. absurd (not_nine _ c.tell_lives.ensures.answers nine);
      front = λ high r is. rw is.2 (c.tell_lives.ensures.front is.0 is.1 high);
    })
    c.tell_lives.ensures.answers c.tell_lives.ensures.cause)

pub returns-in-Proof-clause-run : goal.returns-in-Proof-clause-run
returns-in-Proof-clause-run g c name image first last h =
    rw c.in-Proof.is (mode_done g.E.Engine.gives g.E.Engine.fires g.E.Engine.counts name Proof c.args.plan.limit image (proves c.args.program) first last _ _ _ _ _ _ _ _ (other Proof (inr (inr refl)))
    (λ script. record {
      exact = λ low. let said = c.tell_proof.ensures.said low in (_, (said.0, said.1, said.2, said.3, refl), (said.4, said.5));
      refused = λ nine. absurd (not_nine _ c.tell_proof.ensures.answers nine);
      front = λ high. proof_front g.E.Engine.gives g.E.Engine.fires g.E.Engine.counts c.args.program script _ _ (c.tell_proof.ensures.front high);
    })
    c.tell_proof.ensures.answers c.tell_proof.ensures.cause)

pub run_program-requires-clause-prompt : goal.run_program-requires-clause-prompt
run_program-requires-clause-prompt g c bytes now h = c.requires.prompt bytes now (rw c.in-Run.is h)

pub save_program-requires-clause-prompt : goal.save_program-requires-clause-prompt
save_program-requires-clause-prompt g c bytes now h = c.requires.prompt bytes now (rw c.in-Save.is h)
