-- What a live run does, from what its parts do.
use Rattle.std.proofs.Common.{◌≡◌, ◌≢◌, ◌⊎◌, inl, inr, ◌≤◌, ◌++◌, ℕ, List, [], ◌∷◌, Option, Some, None, refl, sym, ap, subst, ◌∙◌, arith}
use Rattle.{std.{specs.Prelude.{IfSome}, proofs.lemmas.List.{append-nil}}, fx_io.specs.{Outside.{append, AppendsFront}, Lines.{lines_of}}}
use Rattle.{fx_io.proofs.Told.{append-append}, checkpoint.specs.declared.image.RunPart.{RunPart}, rule_model.specs.declared.life.LifeTable.{LifeTable}}
use Rattle.{rule_model.specs.declared.program.Program.{Program}, rule_world.specs.Worlds.{World}, line_run.specs.declared.fault.ImageFault.{ImageFault}}
use Rattle.line_run.specs.{declared.turn.{Ended.TheVariants.{Script, Limit}, Progress.{Progress}}, Parts.{run_part_at}, Run.{Outcome, RunState, Steps}}
use Rattle.line_run.{specs.{Saves.{ArePut, Puts}, Turns.{ReachesWorld}, Unfinished.{KeptFront, RefusedAt, StoppedKept}}, proofs.Ahead.{append_nothing}}
use Rattle.{line_run.proofs.Ahead.{none_saved}, script_run.specs.Live.{live_step, most_firings}}
use Rattle.replay.specs.{declared.refused_checkpoint.CheckpointCode.{CheckpointCode, TheVariants.{Unfit}}, Beginnings.{BeginsIn, CanBegin, part_of}}
use Rattle.{replay.specs.{Checkpoints.{checkpoint_text}, Report.{run_status}, Wanted.{Files}}, desk.specs.Keeping.{IsPutFor, IsPutBehind, IsRefusedBehind}}
use Rattle.desk.specs.{Keeping.{IsRefusedFor, IsUnputFor, refusal_code, status_of_part}, Meanings.{Meanings}, Report.{AreKept, IsCutShort, IsEndedEarly}}
use Rattle.desk.specs.{Report.{IsKept, IsRefusedIn, IsUnkept, LivesBy, first_of, lines_of_run, live_run, live_saves}, declared.live.Live.{Live}}
use Rattle.desk.proofs.Fronts.{all_front, front_behind, no_front}

abbrev no_lines : List (List ℕ)
no_lines = []

-- what holds in each world in which a run begins
abbrev Each : Live → LifeTable → (World → Type 0) → Type 0
Each it table P = (w : World) → BeginsIn it.program table it.beginning w → P w

module _ (m : Meanings) (it : Live) (table : LifeTable) (before : Option (List ℕ)) (files : Option Files) where
  -- nothing was written or put
  nothing_done : (w : World) (bytes : List ℕ) → IsCutShort it table (live_run m it table w) (live_saves m it table w) bytes before before files files
  nothing_done w bytes = record {
    lines = [];
    rest = lines_of bytes;
    parts = refl;
    front = no_front before _ (sym (append_nothing before));
    put = inl (rw (none_saved (live_step (lines_of_run m it table)) (first_of it w)) refl);
  }

  -- the run did not begin: memory was refused
  pub unstarted : (told : Option (List ℕ)) → IfSome told (λ bytes. LivesBy m it table bytes before before files files 7)
  unstarted None = tt
  unstarted (Some bytes) = record {
    done = λ low. absurd (omega (arith, low));
    cut_short = λ low high can w b. inl (nothing_done w bytes);
    unfit = λ low high none. (no_front before (checkpoint_text Unfit) (sym (append_nothing before)), refl);
    refused = λ nine. absurd (omega (arith, nine));
    used_up = λ e. absurd (omega (arith, e));
  }

module _ (m : Meanings) (it : Live) (table : LifeTable) (before after : Option (List ℕ)) (files files' : Option Files) where
  -- the image does not fit
  pub unfit : (told : Option (List ℕ)) (status : ℕ) → (CanBegin it.program table it.beginning → ⊥) → (status ≡ 9 → after ≡ append before (checkpoint_text Unfit))
      → (5 ≤ status → AppendsFront before after (checkpoint_text Unfit)) → files' ≡ files → (status ≡ 9) ⊎ ((6 ≤ status) × (status ≤ 7)) → IfSome told (λ bytes. LivesBy m it table bytes before after files files' status)
  unfit None status none said front same answers = tt
  unfit (Some bytes) status none said front same answers = record {
    done = λ low. absurd (grind (arith, low, answers));
    cut_short = λ low high can. absurd (none can);
    unfit = λ low high _. (front low, same);
    refused = λ nine. inl (none, said nine, same);
    used_up = λ e. absurd (grind (arith, e, answers));
  }

  -- of each world
  abbrev CutShort : List ℕ → World → Type 0
  CutShort bytes w = IsCutShort it table (live_run m it table w) (live_saves m it table w) bytes before after files files'

  -- some first lines are done, and a front of what they print is written
  pub cut : (w : World) (bytes : List ℕ) → KeptFront (IsKept it table) (live_run m it table w) (live_saves m it table w) bytes before after files files' → CutShort bytes w
  cut w bytes h = record {
    lines = h.lines;
    rest = h.rest;
    parts = h.parts;
    front = h.is_front;
    put = inl h.are_put;
  }

  -- the run stopped
  pub stopped : (told : Option (List ℕ)) (status : ℕ) → 5 ≤ status → status ≤ 8 → CanBegin it.program table it.beginning
      → Each it table (λ w. IfSome told (λ bytes. KeptFront (IsKept it table) (live_run m it table w) (live_saves m it table w) bytes before after files files'))
      → IfSome told (λ bytes. LivesBy m it table bytes before after files files' status)
  stopped None status low high can kept = tt
  stopped (Some bytes) status low high can kept = record {
    done = λ le. absurd (omega (arith, le, low));
    cut_short = λ _ _ _ w b. inl (cut w bytes (kept w b));
    unfit = λ _ _ none. absurd (none can);
    refused = λ nine. absurd (omega (arith, nine, high));
    used_up = λ e. absurd (omega (arith, e, high));
  }

  -- all firings that it may make were made
  pub used_up : (told : Option (List ℕ)) → CanBegin it.program table it.beginning → Each it table (λ w. IfSome told (λ bytes. (after ≡ append before (live_run m it table w (lines_of bytes)).bytes)
      × ((live_run m it table w (lines_of bytes)).ended ≡ Limit) × ArePut (IsKept it table) (live_saves m it table w (lines_of bytes)) files files'))
      → IfSome told (λ bytes. LivesBy m it table bytes before after files files' 11)
  used_up None can h = tt
  used_up (Some bytes) can h = record {
    done = λ low. absurd (omega (arith, low));
    cut_short = λ low high. absurd (omega (arith, high));
    unfit = λ low high. absurd (omega (arith, high));
    refused = λ nine. absurd (omega (arith, nine));
    used_up = λ _. (can, λ w b. h w b);
  }

-- ---- an image is refused behind a line that saves

module _ (m : Meanings) (it : Live) (table : LifeTable) (before middle after : Option (List ℕ)) (files files' : Option Files) (why : ImageFault) where
  abbrev RefusedBehind : List ℕ → World → Type 0
  RefusedBehind bytes w = RefusedAt (IsKept it table) (λ s code. IsUnkept it table s (refusal_code code)) why (live_step (lines_of_run m it table))
      (live_run m it table w) (live_saves m it table w) bytes before middle files files'

  -- the line that refuses it is written so
  refused_in : (P : List ℕ → Type 0) (bytes : List ℕ) (w : World) (r : RefusedBehind bytes w)
      → P ((live_run m it table w r.lines).bytes ++ checkpoint_text (refusal_code why))
      → IsRefusedIn (lines_of_run m it table) it table (first_of it w) (refusal_code why) bytes P files files'
  refused_in P bytes w r is = record {
    lines = r.lines;
    rest = r.line ∷ r.rest;
    parts = r.parts;
    state = r.state;
    comes = r.comes;
    is_written = is;
    are_put = r.are_put;
    is_refused = (r.done, r.saves_there, r.is_refused);
  }

  pub refused : (told : Option (List ℕ)) (status : ℕ) → CanBegin it.program table it.beginning → Each it table (λ w. IfSome told (λ bytes. RefusedBehind bytes w))
      → (status ≡ 9 → after ≡ append middle (checkpoint_text (refusal_code why))) → (5 ≤ status → AppendsFront middle after (checkpoint_text (refusal_code why)))
      → (status ≡ 9) ⊎ ((6 ≤ status) × (status ≤ 7)) → IfSome told (λ bytes. LivesBy m it table bytes before after files files' status)
  refused None status can h said front answers = tt
  refused (Some bytes) status can h said front answers = record {
    done = λ low. absurd (grind (arith, low, answers));
    cut_short = λ low high _ w b. inr (
      refusal_code why,
      refused_in (AppendsFront before after) bytes w (h w b) (front_behind before middle after _ (checkpoint_text (refusal_code why)) (h w b).is_written (front low)),
    );
    unfit = λ low high none. absurd (none can);
    refused = λ nine. inr (
      can,
      refusal_code why,
      λ w b. refused_in (λ text. after ≡ append before text) bytes w (h w b) (said nine ∙ ap (λ (z : Option (List ℕ)). append z (checkpoint_text (refusal_code why))) (h w b).is_written
          ∙ append-append before _ (checkpoint_text (refusal_code why))),
    );
    used_up = λ e. absurd (grind (arith, e, answers));
  }

-- ---- what is put, and refused, by the program and the table that an engine was made with

abbrev pub putting : Program → LifeTable → Option LifeTable → RunPart → Option (List ℕ) → Puts
putting p table told first image s before after = IsPutBehind p table told first s before after image

abbrev pub refusing : Program → LifeTable → Option LifeTable → RunPart → RunState → ImageFault → Type 0
refusing p table told first s why = IsRefusedBehind p table told first s (refusal_code why)

module _ (p q : Program) (t u : LifeTable) (programs : p ≡ q) (tables : t ≡ u) where
  by_both : (P : Program → LifeTable → Type 0) → P p t → P q u
  by_both P h = subst (P q) tables (subst (λ (z : Program). P z t) programs h)

  pub alike_put : (told : Option LifeTable) (first : RunPart) (image : Option (List ℕ)) (states : List RunState) (files files' : Option Files) → ArePut (putting p t told first image) states files files' → ArePut (putting q u told first image) states files files'
  alike_put told first image states files files' = by_both (λ z v. ArePut (putting z v told first image) states files files')

  pub alike_front : (told : Option LifeTable) (first : RunPart) (image : Option (List ℕ)) (outcome : List (List ℕ) → Outcome) (saved : List (List ℕ) → List RunState) (script : List ℕ) (before after : Option (List ℕ)) (files files' : Option Files)
      → KeptFront (putting p t told first image) outcome saved script before after files files' → KeptFront (putting q u told first image) outcome saved script before after files files'
  alike_front told first image outcome saved script before after files files' = by_both (λ z v. KeptFront (putting z v told first image) outcome saved script before after files files')

  pub alike_stopped : (told : Option LifeTable) (first : RunPart) (image : Option (List ℕ)) (outcome : List (List ℕ) → Outcome) (saved : List (List ℕ) → List RunState) (script : List ℕ) (left before after : Option (List ℕ)) (files files' : Option Files)
      → StoppedKept (putting p t told first image) outcome saved script left before after files files' → StoppedKept (putting q u told first image) outcome saved script left before after files files'
  alike_stopped told first image outcome saved script left before after files files' = by_both (λ z v. StoppedKept (putting z v told first image) outcome saved script left before after files files')

  pub alike_refused : (told : Option LifeTable) (first : RunPart) (image : Option (List ℕ)) (why : ImageFault) (steps : Steps) (outcome : List (List ℕ) → Outcome) (saved : List (List ℕ) → List RunState) (script : List ℕ) (before after : Option (List ℕ)) (files files' : Option Files)
      → RefusedAt (putting p t told first image) (refusing p t told first) why steps outcome saved script before after files files' → RefusedAt (putting q u told first image) (refusing q u told first) why steps outcome saved script before after files files'
  alike_refused told first image why steps outcome saved script before after files files' =
      by_both (λ z v. RefusedAt (putting z v told first image) (refusing z v told first) why steps outcome saved script before after files files')

-- ---- the run came to its end

module _ (it : Live) (table : LifeTable) (files files' : Option Files) (last : World → Type 0) (run : RunPart) (at : Progress) (run-is : run ≡ run_part_at most_firings (part_of it.beginning) at) where
  kept_in : (image : Option (List ℕ)) (s : RunState) → at ≡ s.progress → last s.world → IsPutFor last it.program table it.told run files files' image
      → IsPutBehind it.program table it.told (part_of it.beginning) s files files' image
  kept_in None s at-is st h = h
  kept_in (Some name) s at-is st h = (h.0, h.2 s.world st, h.1 ∙ run-is ∙ ap (run_part_at most_firings (part_of it.beginning)) at-is, h.3)

-- the state to which a run came, and the worlds for which what it left stands
abbrev pub Reached : (World → Type 0) → Progress → Option RunState → Type 0
Reached last at None = ⊥
Reached last at (Some s) = (at ≡ s.progress) × last s.world

pub reached : {T : Type 0} (stands : T → World → Type 0) (left : T) (at : Progress) (to : Option RunState) → ReachesWorld stands to (Some (left, at)) → Reached (stands left) at to
reached stands left at None h = h
reached stands left at (Some s) h = h

-- what was put for the engine that a run left is kept of the state to which it came
kept_of : (last : World → Type 0) (it : Live) (table : LifeTable) (files files' : Option Files) (run : RunPart) (at : Progress)
    → run ≡ run_part_at most_firings (part_of it.beginning) at → (to : Option RunState) → Reached last at to
    → IsPutFor last it.program table it.told run files files' it.image → IfSome to (λ s. IsKept it table s files files')
kept_of last it table files files' run at is None reaches h = tt
kept_of last it table files files' run at is (Some s) reaches h = kept_in it table files files' last run at is it.image s reaches.0 reaches.1 h

-- the state to which it came, whose image is refused
unkept_of : (last : World → Type 0) (it : Live) (table : LifeTable) (run : RunPart) (at : Progress) → run ≡ run_part_at most_firings (part_of it.beginning) at
    → (to : Option RunState) → Reached last at to → (code : CheckpointCode) → IsRefusedFor last it.program table it.told run code
    → (s : RunState) × (to ≡ Some s) × IsUnkept it table s code
unkept_of last it table run at is None reaches code h = absurd reaches
unkept_of last it table run at is (Some s) reaches code h =
    (s, refl, (h.0, h.2 s.world reaches.1, h.1 ∙ is ∙ ap (run_part_at most_firings (part_of it.beginning)) reaches.0, h.3))

-- its image was put, where one is named, or refused
module _ (last : World → Type 0) (m : Meanings) (it : Live) (table : LifeTable) (before middle after : Option (List ℕ)) (files put files' : Option Files)
    (at : Progress) (run : RunPart) (run-is : run ≡ run_part_at most_firings (part_of it.beginning) at) (text : List ℕ) (middle-is : middle ≡ append before text) where
  abbrev pub Ran : List ℕ → World → Type 0
  Ran bytes w = let o = live_run m it table w (lines_of bytes) in
      ((text ≡ o.bytes) × (Script at.faulted ≡ o.ended) × Reached last at o.comes_to)
      × ArePut (IsKept it table) (live_saves m it table w (lines_of bytes)) files put

  all_lines : (bytes : List ℕ) → lines_of bytes ≡ lines_of bytes ++ []
  all_lines bytes = sym (append-nil (lines_of bytes))

  pub ended : (told : Option (List ℕ)) (status : ℕ) → CanBegin it.program table it.beginning → Each it table (λ w. IfSome told (λ bytes. Ran bytes w))
      → (status ≤ 1 → (status ≡ status_of_part run.faulty) × (after ≡ middle) × IsPutFor last it.program table it.told run put files' it.image)
      → (status ≡ 9 → (code : CheckpointCode) × (after ≡ append middle (checkpoint_text code)) × IsRefusedFor last it.program table it.told run code × (it.image ≢ None))
      → (status ≡ 9 → files' ≡ put)
      → (5 ≤ status → status ≤ 8 → IsUnputFor last it.program table it.told run middle after put files' it.image)
      → (status ≤ 1) ⊎ ((6 ≤ status) × (status ≤ 7)) ⊎ (status ≡ 9)
      → IfSome told (λ bytes. LivesBy m it table bytes before after files files' status)
  ended None status can ran is_put refused stays failed answers = tt
  ended (Some bytes) status can ran is_put refused stays failed answers = record {
    done = λ low. (
      can,
      λ w b.
          let o = ran w b in
          let p = is_put low in
          let fault : run.faulty ≡ at.faulted = ap (λ (r : RunPart). r.faulty) run-is in (
            p.1 ∙ middle-is ∙ ap (append before) o.0.0,
            p.0 ∙ ap status_of_part fault ∙ ap run_status o.0.1,
            (put, o.1, kept_of last it table put files' run at run-is _ o.0.2 p.2),
          ),
    );
    cut_short = λ low high _ w b. early bytes w (ran w b) (failed low high);
    unfit = λ low high none. absurd (none can);
    refused = λ nine. let r = refused nine in inr (
      can,
      r.0,
      λ w b. refused_in (λ text. after ≡ append before text) bytes w (ran w b) r.0 r.2 r.3 (stays nine)
          (r.1 ∙ ap (λ (z : Option (List ℕ)). append z (checkpoint_text r.0)) (middle-is ∙ ap (append before) (ran w b).0.0) ∙ append-append before _ (checkpoint_text r.0)),
    );
    used_up = λ e. absurd (grind (arith, e, answers));
  }
    where
      refused_in : (P : List ℕ → Type 0) (bytes : List ℕ) (w : World) → Ran bytes w → (code : CheckpointCode) → IsRefusedFor last it.program table it.told run code → it.image ≢ None → files' ≡ put
          → P ((live_run m it table w (lines_of bytes)).bytes ++ checkpoint_text code) → IsRefusedIn (lines_of_run m it table) it table (first_of it w) code bytes P files files'
      refused_in P bytes w o code is_refused named same is = let there = unkept_of last it table run at run-is _ o.0.2 code is_refused in record {
        lines = lines_of bytes;
        rest = [];
        parts = all_lines bytes;
        state = there.0;
        comes = there.1;
        is_written = is;
        are_put = rw same o.1;
        is_refused = (there.2, named);
      }

      put_or_not : (bytes : List ℕ) (w : World) → Ran bytes w → (files' ≡ put) ⊎ IsPutFor last it.program table it.told run put files' it.image
          → ArePut (IsKept it table) (live_saves m it table w (lines_of bytes)) files files' ⊎ ((no_lines ≡ []) × AreKept it table (live_saves m it table w (lines_of bytes)) (live_run m it table w (lines_of bytes)).comes_to files files')
      put_or_not bytes w o (inl same) = inl (rw same o.1)
      put_or_not bytes w o (inr h) = inr (refl, (put, o.1, kept_of last it table put files' run at run-is _ o.0.2 h))

      early : (bytes : List ℕ) (w : World) → Ran bytes w → IsUnputFor last it.program table it.told run middle after put files' it.image → IsEndedEarly m it table bytes before after files files' w
      early bytes w o (inl h) = inl (record {
        lines = lines_of bytes;
        rest = [];
        parts = all_lines bytes;
        front = all_front before after _ (h.0 ∙ middle-is ∙ ap (append before) o.0.0);
        put = put_or_not bytes w o h.1;
      })
      early bytes w o (inr h) = inr (
        h.0,
        refused_in (AppendsFront before after) bytes w o h.0 h.2 h.3 h.4 (front_behind before middle after _ (checkpoint_text h.0) (middle-is ∙ ap (append before) o.0.0) h.1),
      )
