-- The run behind the image of an earlier one is the rest of the run of both scripts as one, and what is saved of it the image of that.
use Rattle.replay.proofs.Common.{◌≡◌, inl, inr, ◌≤◌, ◌++◌, ℕ, List, Option, Some, None, refl, sym, ap, subst, ◌∙◌, arith, lines_of, Image, RunPart, LifeTable}
use Rattle.replay.proofs.Common.{Program, AreLives, empty_world, Gives, Fires, Counts, first_part, run_part_at, run_on, Outcome, RunSetting, RunState}
use Rattle.replay.proofs.Common.{setting_of, then_run, whole_run, first_state, script_joined, whole_behind, GoesOn, IsImageOfRun, IsRest, Report, Reports}
use Rattle.replay.proofs.Common.{IsToldBehind, IsReport, IsRunBehind, IsRunStatus, IsSaved, IsSavedBehind, IsSaveStatus, outcome_report, run_status, Wanted}
use Rattle.replay.proofs.Common.{usage_line, refuses, refuses_checkpoint, runs, resumes, saves, saves_on, accepts, tells_lives, proves, sums_up}
use Rattle.replay.{specs.Behind.{IsSoundWorld, KeepWorlds, IsRefusedOn}, proofs.{Programs.{WantsRunnable}, Tables.{by_table}}}
use Rattle.{image_laws.specs.Fitting.{Fits}, rule_world.{specs.Programs.{IsRunnable}, proofs.Lawfuls.{empty_lawful}}, script_run.proofs.Joined.{part_joined}}
use Rattle.script_run.proofs.Kept.{run_keeps}

empty_sound : (p : Program) → IsSoundWorld p empty_world
empty_sound p = record { lawful = empty_lawful p; ids = omega arith; tags = omega arith }

-- the world that the run of a script comes to is one of those that runs come to
pub whole_sound : (gives : Gives) (fires : Fires) (counts : Counts) (keep : KeepWorlds gives fires) (limit : ℕ) (p : Program) (table : LifeTable) (lines : List (List ℕ)) (s : RunState)
    → IsRunnable p → (whole_run (setting_of gives fires counts limit p table) lines).comes_to ≡ Some s → IsSoundWorld p s.world
whole_sound gives fires counts keep limit p table lines s runnable comes =
    run_keeps (setting_of gives fires counts limit p table) (IsSoundWorld p) (λ w c h. keep.changes p w c runnable h) (λ w f h e. keep.firings p w f runnable h e)
    (first_state limit) s lines (empty_sound p) comes

module _ (gives : Gives) (fires : Fires) (counts : Counts) (keep : KeepWorlds gives fires) (limit : ℕ) (p : Program) (runnable : IsRunnable p) (table : LifeTable)
    (first second : List ℕ) (image : Image) (is : IsImageOfRun gives fires counts limit p table first image) where
  abbrev setting : RunSetting
  setting = setting_of gives fires counts limit p table

  -- the second script behind the image
  abbrev rest : Outcome
  rest = run_on setting is.state.world image.run (lines_of second)

  sound : IsSoundWorld p is.state.world
  sound = whole_sound gives fires counts keep limit p table (lines_of first) is.state runnable is.comes_to

  comes : (run_on setting empty_world (first_part image.run.rules) (lines_of first)).comes_to ≡ Some is.state
  comes = sym (ap (λ (o : Outcome). o.comes_to) (whole_behind setting image.run.rules (lines_of first))) ∙ is.comes_to

  joined : whole_run setting (lines_of (first ++ second)) ≡ then_run (whole_run setting (lines_of first)).bytes rest
  joined =
      let rules = image.run.rules in
      whole_behind setting rules (lines_of (first ++ second))
      ∙ script_joined setting empty_world (first_part rules) first second is.state is.ends comes
      ∙ ap (λ (o : Outcome). then_run o.bytes (run_on setting is.state.world (run_part_at limit (first_part rules) is.state.progress) (lines_of second))) (sym (whole_behind setting rules (lines_of first)))
      ∙ ap (λ (part : RunPart). then_run (whole_run setting (lines_of first)).bytes (run_on setting is.state.world part (lines_of second))) (sym is.run)

  -- ---- its lines

  by_report : (before after : Option (List ℕ)) (status : ℕ) (r : Report) → Reports before after status r → status ≤ 4
      → IsToldBehind p table image IsRunStatus (IsRunBehind gives fires counts limit p table image second) r
      → IsRest gives fires counts limit p table first second before after status
  by_report before after status r said low (inl unfit) = absurd (let nine : r.status ≡ 9 = ap (λ (q : Report). q.status) unfit.1 in omega (arith, nine, low, said.1))
  by_report before after status r said low (inr fits) =
      let behind : r ≡ outcome_report rest = fits.2 is.state.world sound.lawful is.is_image in
      record {
        text = rest.bytes;
        lines = ap (λ (o : Outcome). o.bytes) joined;
        written = rw behind at said.0;
        ends = said.1 ∙ ap (λ (q : Report). q.status) behind ∙ sym (ap (λ (o : Outcome). run_status o.ended) joined);
      }

  pub rest_so : (before after : Option (List ℕ)) (status : ℕ) (r : Report) → AreLives p table → IsReport gives fires counts (resumes limit image p) second r → Reports before after status r → status ≤ 4
      → IsRest gives fires counts limit p table first second before after status
  rest_so before after status r are report said low =
      by_report before after status r said low
      (by_table p (λ (t : LifeTable). IsToldBehind p t image IsRunStatus (IsRunBehind gives fires counts limit p t image second) r) report.0 table report.1 are report.2)

  -- ---- its image

  -- what the image of both says of the run
  part_so : (t : RunState) → rest.comes_to ≡ Some t → run_part_at limit image.run t.progress ≡ run_part_at limit (first_part image.run.rules) t.progress
  part_so t e =
      let rules = image.run.rules in
      let two : (run_on setting is.state.world (run_part_at limit (first_part rules) is.state.progress) (lines_of second)).comes_to ≡ Some t
      = subst (λ (part : RunPart). (run_on setting is.state.world part (lines_of second)).comes_to ≡ Some t) is.run e in
      ap (λ (part : RunPart). run_part_at limit part t.progress) is.run
      ∙ part_joined setting empty_world (first_part rules) (lines_of first) (lines_of second) is.state t comes two

  by_state : (o : Option RunState) (r : Report) → rest.comes_to ≡ o → IsSaved p table limit image.run o r → IsSaved p table limit (first_part image.run.rules) o r
  by_state None r e h = h
  by_state (Some t) r e h = (h.0, h.1, h.2 ∙ part_so t e, h.3, h.4)

  pub saved_joined : (r : Report) → IsSaved p table limit image.run rest.comes_to r
      → IsSaved p table limit (first_part image.run.rules) (whole_run setting (lines_of (first ++ second))).comes_to r
  saved_joined r h =
      subst (λ (o : Outcome). IsSaved p table limit (first_part image.run.rules) o.comes_to r) (sym joined) (by_state rest.comes_to r refl h)

  -- with another status than 9, or where the image fits, it is that of both as one
  saved_by : (r : Report) → ((Fits p table image → ⊥) → r.status ≡ 9 → ⊥) → IsToldBehind p table image IsSaveStatus (IsSavedBehind gives fires counts limit p table image second) r
      → IsSaved p table limit (first_part image.run.rules) (whole_run setting (lines_of (first ++ second))).comes_to r
  saved_by r not_unfit (inl unfit) = absurd (not_unfit unfit.0 (ap (λ (q : Report). q.status) unfit.1))
  saved_by r not_unfit (inr fits) = saved_joined r (fits.2 is.state.world sound.lawful is.is_image)

  pub saved_so : (r : Report) → AreLives p table → IsReport gives fires counts (saves_on limit image p) second r → ((Fits p table image → ⊥) → r.status ≡ 9 → ⊥)
      → IsSaved p table limit (first_part image.run.rules) (whole_run setting (lines_of (first ++ second))).comes_to r
  saved_so r are report not_unfit =
      saved_by r not_unfit
      (by_table p (λ (t : LifeTable). IsToldBehind p t image IsSaveStatus (IsSavedBehind gives fires counts limit p t image second) r) report.0 table report.1 are report.2)

module _ (gives : Gives) (fires : Fires) (counts : Counts) (keep : KeepWorlds gives fires) where
  pub goes_on : (w : Wanted) (first second : List ℕ) (before after : Option (List ℕ)) (status : ℕ) (r : Report) → WantsRunnable w
      → IsReport gives fires counts w second r → Reports before after status r → status ≤ 4 → GoesOn gives fires counts w first second before after status
  goes_on (resumes limit image p) first second before after status r runnable report said low =
      λ table are is. rest_so gives fires counts keep limit p runnable table first second image is before after status r are report said low
  goes_on (saves_on limit image p) first second before after status r runnable report said low =
      λ table are is. (r, saved_so gives fires counts keep limit p runnable table first second image is r are report (λ unfit nine. omega (arith, nine, low, said.1)), said)
  goes_on usage_line first second before after status r runnable report said low = tt
  goes_on (refuses refusal) first second before after status r runnable report said low = tt
  goes_on (refuses_checkpoint code) first second before after status r runnable report said low = tt
  goes_on (runs limit p) first second before after status r runnable report said low = tt
  goes_on (saves limit rules p) first second before after status r runnable report said low = tt
  goes_on (accepts p) first second before after status r runnable report said low = tt
  goes_on (tells_lives p) first second before after status r runnable report said low = tt
  goes_on (proves p) first second before after status r runnable report said low = tt
  goes_on (sums_up number limit p) first second before after status r runnable report said low = tt

  pub refused_on : (w : Wanted) (first second : List ℕ) (before after : Option (List ℕ)) (status : ℕ) (r : Report) → WantsRunnable w
      → IsReport gives fires counts w second r → Reports before after status r → IsRefusedOn gives fires counts w first second before after status
  refused_on (saves_on limit image p) first second before after status r runnable report said =
      λ table are fits is. (r, saved_so gives fires counts keep limit p runnable table first second image is r are report (λ unfit nine. unfit fits), said)
  refused_on (resumes limit image p) first second before after status r runnable report said = tt
  refused_on usage_line first second before after status r runnable report said = tt
  refused_on (refuses refusal) first second before after status r runnable report said = tt
  refused_on (refuses_checkpoint code) first second before after status r runnable report said = tt
  refused_on (runs limit p) first second before after status r runnable report said = tt
  refused_on (saves limit rules p) first second before after status r runnable report said = tt
  refused_on (accepts p) first second before after status r runnable report said = tt
  refused_on (tells_lives p) first second before after status r runnable report said = tt
  refused_on (proves p) first second before after status r runnable report said = tt
  refused_on (sums_up number limit p) first second before after status r runnable report said = tt
