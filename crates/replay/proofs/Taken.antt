-- What was saved is taken as a checkpoint.
use Rattle.replay.proofs.Common.{◌≡◌, inl, inr, ◌≤◌, ◌^◌, ◌++◌, ◌&&◌, ℕ, Bool, true, false, List, [], ◌∷◌, drop, length, nat_lt, Option, Some, None, refl, sym}
use Rattle.replay.proofs.Common.{ap, subst, ◌∙◌, arith, nat_tests, append_assoc, append-nil, bytes_eq, if◌then◌else◌, lines_of, Image, Script, LifeTable}
use Rattle.replay.proofs.Common.{Program, AreLives, Gives, Fires, Counts, first_part, run_part_at, Outcome, RunState, setting_of, whole_run, can_go_on}
use Rattle.replay.proofs.Common.{has_image, Unfit, TooLong, Report, Reports, IsReport, IsSaved, checkpoint_report, image_report, run_status, Wanted, usage_line}
use Rattle.replay.proofs.Common.{refuses, refuses_checkpoint, runs, resumes, saves, saves_on, accepts, tells_lives, proves, sums_up}
use Rattle.replay.{specs.{Behind.{IsSoundWorld, KeepWorlds, AreTaken, IsTakenAgain}, Checkpoints.{checkpoint_of, image_limit}}, proofs.GoingOn.{whole_sound}}
use Rattle.{replay.proofs.{GoingOn.{saved_so}, ImagesRead.{image_is}, Programs.{WantsRunnable}, Tables.{by_table}}, std.specs.Prelude.{nat_le}}
use Rattle.{std.proofs.lemmas.{Bool.{and_parts}, Slice.Eq.{bytes_eq-Decides}}, checkpoint.specs.Bytes.{field_bytes, image_bytes, IsImage}}
use Rattle.{checkpoint.{specs.Reading.{fields_at}, proofs.Structs.{fields_exact}}, image_laws.specs.{Fitting.{Fits}, Images.{IsImageOf}}}
use Rattle.{image_laws.proofs.Fit.{image_fits}, life_meaning.{specs.Tables.{AreSafe}, proofs.Safe.{safe_life}}, rule_world.specs.Programs.{IsRunnable}}
use Rattle.line_run.specs.Parts.{EndsLine}

-- ---- an image that was written

tests_low : (long goes faulty : Bool) (bytes : List ℕ)
    → (if long then checkpoint_report TooLong else (if goes then record { bytes = bytes; status = run_status (Script faulty) } else checkpoint_report Unfit)).status ≤ 1
    → (long ≡ false) × (goes ≡ true)
    × ((if long then checkpoint_report TooLong else (if goes then record { bytes = bytes; status = run_status (Script faulty) } else checkpoint_report Unfit)).bytes ≡ bytes)
tests_low true goes faulty bytes low = absurd (omega (arith, low))
tests_low false false faulty bytes low = absurd (omega (arith, low))
tests_low false true faulty bytes low = (refl, refl, refl)

-- it has at most 1 GiB, and its numbers let a run go on
written_low : (image : Image) → (image_report image).status ≤ 1
    → (nat_lt image_limit (length (image_bytes image)) ≡ false) × (can_go_on image ≡ true) × ((image_report image).bytes ≡ image_bytes image)
written_low image low = tests_low (nat_lt image_limit (length (image_bytes image))) (can_go_on image) image.run.faulty (image_bytes image) low

read_back : (rules : List ℕ) (image : Image) → IsImage image → image.run.rules ≡ rules → nat_lt image_limit (length (image_bytes image)) ≡ false
    → checkpoint_of rules (image_bytes image) ≡ has_image image
unfolding image_limit
read_back rules image is same short =
    image_is rules (image_bytes image) image (grind (arith, nat_tests, short)) (is, refl)
    (subst (λ (text : List ℕ). bytes_eq text rules ≡ true) (sym same) ((bytes_eq-Decides rules rules).1 refl))

is_small : (n : ℕ) → nat_le n (2 ^ 61) ≡ true → n ≤ 2 ^ 61
is_small n e = grind (arith, nat_tests)

lives_safe : (p : Program) (table : LifeTable) → AreLives p table → AreSafe p table
lives_safe p table are = record { as_many = are.as_many; each = λ ty life there. safe_life p ty life (are.each ty life there) }

module _ (gives : Gives) (fires : Fires) (counts : Counts) (keep : KeepWorlds gives fires) (limit : ℕ) (p : Program) (runnable : IsRunnable p) (table : LifeTable)
    (are : AreLives p table) (rules script : List ℕ) (ends : EndsLine script) where
  abbrev outcome : Outcome
  outcome = whole_run (setting_of gives fires counts limit p table) (lines_of script)

  fits_so : (s : RunState) (image : Image) → outcome.comes_to ≡ Some s → IsImageOf p table s.world image → can_go_on image ≡ true → Fits p table image
  fits_so s image comes is goes =
      let sound : IsSoundWorld p s.world = whole_sound gives fires counts keep limit p table (lines_of script) s runnable comes in
      let a = and_parts (nat_le image.next_id (2 ^ 61)) (nat_le image.next_tag (2 ^ 61) && (nat_le image.run.lines (2 ^ 61) && nat_le image.run.firings (2 ^ 61))) goes in
      let b = and_parts (nat_le image.next_tag (2 ^ 61)) (nat_le image.run.lines (2 ^ 61) && nat_le image.run.firings (2 ^ 61)) a.1 in
      let c = and_parts (nat_le image.run.lines (2 ^ 61)) (nat_le image.run.firings (2 ^ 61)) b.1 in
      image_fits p table s.world image (lives_safe p table are) sound.lawful is
      (subst (λ n. 1 ≤ n) (sym is.next_id) sound.ids, is_small image.next_id a.0) (subst (λ n. 1 ≤ n) (sym is.next_tag) sound.tags, is_small image.next_tag b.0)
      (is_small image.run.lines c.0) (is_small image.run.firings c.1)

  by_state : (o : Option RunState) (r : Report) → outcome.comes_to ≡ o → IsSaved p table limit (first_part rules) o r → r.status ≤ 1
      → AreTaken gives fires counts limit p table rules script r.bytes
  by_state None r comes saved low = absurd (let four : r.status ≡ 4 = ap (λ (q : Report). q.status) saved in omega (arith, four, low))
  by_state (Some s) r comes saved low =
      let image : Image = saved.0 in
      let done = written_low image (subst (λ (q : Report). q.status ≤ 1) saved.4 low) in
      let text : image.run.rules ≡ rules = ap (λ part. part.rules) saved.2 in
      let bytes : r.bytes ≡ image_bytes image = ap (λ (q : Report). q.bytes) saved.4 ∙ done.2 in
      record {
        image = image;
        read = ap (checkpoint_of rules) bytes ∙ read_back rules image saved.3 text done.0;
        fits = fits_so s image comes saved.1 done.1;
        of_run = record {
          ends = ends;
          state = s;
          comes_to = comes;
          is_image = saved.1;
          run = saved.2 ∙ ap (λ (t : List ℕ). run_part_at limit (first_part t) s.progress) (sym text);
        };
      }

  pub taken_so : (r : Report) → IsSaved p table limit (first_part rules) outcome.comes_to r → r.status ≤ 1 → AreTaken gives fires counts limit p table rules script r.bytes
  taken_so r saved low = by_state outcome.comes_to r refl saved low

-- two scripts behind one another end as the second, or as the first where that is empty
both_end : (a b : List ℕ) → EndsLine a → EndsLine b → EndsLine (a ++ b)
both_end a b h (inl none) = subst EndsLine (sym (ap (λ (z : List ℕ). a ++ z) none ∙ append-nil a)) h
both_end a b h (inr last) = inr (a ++ last.0, ap (λ (z : List ℕ). a ++ z) last.1 ∙ sym (append_assoc a last.0 (10 ∷ [])))

module _ (gives : Gives) (fires : Fires) (counts : Counts) (keep : KeepWorlds gives fires) where
  pub taken_again : (w : Wanted) (first script : List ℕ) (before after : Option (List ℕ)) (status : ℕ) (r : Report) → WantsRunnable w
      → IsReport gives fires counts w script r → Reports before after status r → status ≤ 1 → IsTakenAgain gives fires counts w first script before after
  taken_again (saves limit rules p) first script before after status r runnable report said low = λ table are ends. (
    r.bytes,
    said.0,
    taken_so gives fires counts keep limit p runnable table are rules script ends r
        (by_table p (λ (t : LifeTable). IsSaved p t limit (first_part rules) (whole_run (setting_of gives fires counts limit p t) (lines_of script)).comes_to r) report.0 table report.1 are report.2)
        (subst (λ n. n ≤ 1) said.1 low),
  )
  taken_again (saves_on limit image p) first script before after status r runnable report said low = λ table are ends is. (
    r.bytes,
    said.0,
    taken_so gives fires counts keep limit p runnable table are image.run.rules (first ++ script) (both_end first script is.ends ends) r
        (saved_so gives fires counts keep limit p runnable table first script image is r are report (λ unfit nine. omega (arith, nine, low, said.1)))
        (subst (λ n. n ≤ 1) said.1 low),
  )
  taken_again (resumes limit image p) first script before after status r runnable report said low = tt
  taken_again usage_line first script before after status r runnable report said low = tt
  taken_again (refuses refusal) first script before after status r runnable report said low = tt
  taken_again (refuses_checkpoint code) first script before after status r runnable report said low = tt
  taken_again (runs limit p) first script before after status r runnable report said low = tt
  taken_again (accepts p) first script before after status r runnable report said low = tt
  taken_again (tells_lives p) first script before after status r runnable report said low = tt
  taken_again (proves p) first script before after status r runnable report said low = tt
  taken_again (sums_up number limit p) first script before after status r runnable report said low = tt

-- ---- images of which one begins another

abbrev behind_of : Option (Image × List ℕ) → List ℕ
behind_of None = []
behind_of (Some found) = found.1

pub none_begins : (a b : Image) (rest : List ℕ) → IsImage a → IsImage b → image_bytes b ≡ image_bytes a ++ rest → rest ≡ []
unfolding image_bytes IsImage
none_begins a b rest is also e =
    let fields : field_bytes b ≡ field_bytes a ++ rest = ap (drop 4) e in
    ap behind_of
    (sym (fields_exact.again a rest is) ∙ ap fields_at (sym fields ∙ sym (append-nil (field_bytes b))) ∙ fields_exact.again b [] also)
