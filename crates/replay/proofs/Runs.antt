-- What a run does, from its beginning.
use Rattle.replay.proofs.Common.{◌≡◌, Bool, nat_lt, ◌≢◌, ◌⊎◌, inl, inr, ◌<◌, ◌≤◌, ◌+◌, ◌^◌, ℕ, true, false, List, [], length, Option, Some, None, Result, Err}
use Rattle.replay.proofs.Common.{refl, sym, ap, ap₂, subst, ◌∙◌, arith, IfSome, if◌then◌else◌, Rose, append, AppendsFront, count_after, lines_of, Image}
use Rattle.replay.proofs.Common.{RunPart, RuleFile, Mode, Run, Save, LifeTable, Program, AreLives, World, empty_world, Script, Limit, Gives, Fires, Counts}
use Rattle.replay.proofs.Common.{run_part_at, run_on, Outcome, RunState, setting_of, whole_run, Long, StoppedAtRead, limit_text, first_behind, Beginning, First}
use Rattle.replay.proofs.Common.{Behind, TooLong, Unfit, BeginsIn, CanBegin, IsBeginningFor, part_of, image_bytes, can_go_on, image_limit, ShelfSeen, seen}
use Rattle.replay.proofs.Common.{TellsScript, MayEnd, RunOf, Says, Report, IsReport, IsWritten, IsFront, IsLong, IsRunStatus, IsBehindSome, IsRunBehind}
use Rattle.replay.proofs.Common.{IsSaved, IsSaveStatus, IsStopped, TakesFor, checkpoint_report, fault_status, image_report, outcome_report, run_status, Wanted}
use Rattle.replay.proofs.{Common.{wanted_at, MayRefuse, IsImage}, Calls.{some_is, written_as, none_written}, Reports.{front_none}, Tables.{by_table}}
use Rattle.{image_laws.specs.Images.{IsImageOf}, script_run.specs.declared.run_fault.RunFault.{RunFault, TheVariants.{ReadFault, WriteFault, NoMemory}}}
use Rattle.script_run.specs.{declared.run_fault.RunFault.TheVariants.{ScriptLong}, Run.{run as run_lines}, Turns.{TakesScript}}
use Rattle.line_run.specs.{declared.turn.{Ended.{Ended}, Progress.{Progress}}, Turns.{AtEnd, ReachesWorld}}

-- ---- statuses

at_least_5 : (s : ℕ) → (s ≡ 5) ⊎ (s ≡ 8) → 5 ≤ s
at_least_5 s (inl h) = omega (arith, h)
at_least_5 s (inr h) = omega (arith, h)

low_status : (e : Ended) → IsRunStatus (run_status e)
low_status (Script false) = inl (omega arith)
low_status (Script true) = inl (omega arith)
low_status Limit = inr refl

not_high : (s : ℕ) → IsRunStatus s → (s ≡ 2 → ⊥) × (s ≡ 3 → ⊥) × (5 ≤ s → ⊥)
not_high s h = (λ k. grind (arith, h, k), λ k. grind (arith, h, k), λ k. grind (arith, h, k))

at_its_end : (e : Ended) (P : Type 0) → AtEnd e P → run_status e ≤ 1 → P
at_its_end (Script faulted) P h low = h
at_its_end Limit P h low = absurd (omega (arith, low))

takes_for : (e : Ended) (n : ℕ) → AtEnd e (n ≤ 2 ^ 30) → n ≤ 2 ^ 30 + 1 → TakesFor (run_status e) n
takes_for e n over most = record {
  most = most;
  more = λ eight. absurd ((not_high (run_status e) (low_status e)).2 (omega (arith, eight)));
  done = λ low. at_its_end e (n ≤ 2 ^ 30) over low;
  failed = λ five. absurd ((not_high (run_status e) (low_status e)).2 (omega (arith, five)));
}

high : (f : RunFault) → (5 ≤ fault_status f) × (fault_status f ≤ 8)
high ReadFault = (omega arith, omega arith)
high WriteFault = (omega arith, omega arith)
high NoMemory = (omega arith, omega arith)
high ScriptLong = (omega arith, omega arith)

is_read_fault : (f : RunFault) → fault_status f ≡ 5 → f ≡ ReadFault
is_read_fault ReadFault e = refl
is_read_fault WriteFault e = absurd (omega (arith, e))
is_read_fault NoMemory e = absurd (omega (arith, e))
is_read_fault ScriptLong e = absurd (omega (arith, e))

is_write_fault : (f : RunFault) → fault_status f ≡ 6 → f ≡ WriteFault
is_write_fault ReadFault e = absurd (omega (arith, e))
is_write_fault WriteFault e = refl
is_write_fault NoMemory e = absurd (omega (arith, e))
is_write_fault ScriptLong e = absurd (omega (arith, e))

is_long : (f : RunFault) → fault_status f ≡ 8 → f ≡ ScriptLong
is_long ReadFault e = absurd (omega (arith, e))
is_long WriteFault e = absurd (omega (arith, e))
is_long NoMemory e = absurd (omega (arith, e))
is_long ScriptLong e = refl

-- how a run ends that does not come to its end
abbrev pub failing : {T : Type 0} → RunFault → Result T RunFault
failing f = Err f

takes_at : (f : RunFault) (n : ℕ) → TakesScript (failing f) n → n ≤ 2 ^ 30 + 1 → TakesFor (fault_status f) n
takes_at f n takes most = record {
  most = most;
  more = λ eight. let t : TakesScript (failing ScriptLong) n = subst (λ (g : RunFault). TakesScript (failing g) n) (is_long f eight) takes in t;
  done = λ low. absurd (omega (arith, (high f).0, low));
  failed = λ five. let t : TakesScript (failing ReadFault) n = subst (λ (g : RunFault). TakesScript (failing g) n) (is_read_fault f five) takes in t;
}

-- ---- what is wanted at a beginning

tells_run : (limit : ℕ) (b : Beginning) (p : Program) (left : Option (List ℕ)) (script : List ℕ) → TellsScript (wanted_at Run limit b p) left script → left ≡ Some script
tells_run limit (First rules) p left script h = h
tells_run limit (Behind image) p left script h = h

tells_save : (limit : ℕ) (b : Beginning) (p : Program) (left : Option (List ℕ)) (script : List ℕ) → TellsScript (wanted_at Save limit b p) left script → left ≡ Some script
tells_save limit (First rules) p left script h = h
tells_save limit (Behind image) p left script h = h

-- an image that does not fit is refused
pub refused_so : (limit : ℕ) (b : Beginning) (p : Program) (table : LifeTable) (told : Option (List ℕ → Option (List ℕ))) (mode : Mode) (image : Option (List ℕ)) (misses misses' : List ℕ → ℕ) (name : List ℕ)
    → (CanBegin p table b → ⊥) → IsBeginningFor told mode image b → MayRefuse told misses misses' (RuleFile name mode limit image)
refused_so limit (First rules) p table told mode image misses misses' name never h = absurd (never tt)
refused_so limit (Behind i) p table told mode image misses misses' name never h = inr (h.0, h.1, h.2, inr h.3)

module _ (gives : Gives) (fires : Fires) (counts : Counts) (limit : ℕ) (p : Program) (table : LifeTable) (are : AreLives p table) (script : List ℕ) where
  pub run_report : (b : Beginning) (r : Report) → CanBegin p table b → IsRunStatus r.status
      → ((w : World) → BeginsIn p table b w → r ≡ outcome_report (run_on (setting_of gives fires counts limit p table) w (part_of b) (lines_of script)))
      → IsReport gives fires counts (wanted_at Run limit b p) script r
  run_report (First rules) r can status says =
      (table, are, says empty_world refl ∙ ap (λ (s : RunState). outcome_report (run_lines (setting_of gives fires counts limit p table) s (lines_of script))) (sym (first_behind limit rules)))
  run_report (Behind image) r can status says = (table, are, inr (can, status, λ w lawful is. says w (lawful, is)))

  pub run_front : (b : Beginning) (before after : Option (List ℕ)) → CanBegin p table b
      → ((w : World) → BeginsIn p table b w → AppendsFront before after (run_on (setting_of gives fires counts limit p table) w (part_of b) (lines_of script)).bytes)
      → IsFront gives fires counts (wanted_at Run limit b p) script before after
  run_front (First rules) before after can front = λ r is.
      rw is.2 (by_table p (λ (t : LifeTable). AppendsFront before after (whole_run (setting_of gives fires counts limit p t) (lines_of script)).bytes) table is.0 are is.1
      (subst (λ (s : RunState). AppendsFront before after (run_lines (setting_of gives fires counts limit p table) s (lines_of script)).bytes) (sym (first_behind limit rules)) (front empty_world refl)))
  run_front (Behind image) before after can front = λ t are' r some.
      here t r (by_table p (λ (u : LifeTable). CanBegin p u (Behind image)) table t are are' can)
      (by_table p (λ (u : LifeTable). (w : World) → BeginsIn p u (Behind image) w → AppendsFront before after (run_on (setting_of gives fires counts limit p u) w image.run (lines_of script)).bytes) table t are are' front) some
    where
      here : (t : LifeTable) (r : Report) → CanBegin p t (Behind image)
          → ((w : World) → BeginsIn p t (Behind image) w → AppendsFront before after (run_on (setting_of gives fires counts limit p t) w image.run (lines_of script)).bytes)
          → IsBehindSome p t image (IsRunBehind gives fires counts limit p t image script) r → AppendsFront before after r.bytes
      here t r fits h (inl never) = absurd (never.0 fits)
      here t r fits h (inr some) = rw some.4 (h some.1 (some.2, some.3))

  pub save_report : (b : Beginning) (r : Report) → CanBegin p table b → IsSaveStatus r.status
      → ((w : World) → BeginsIn p table b w → IsSaved p table limit (part_of b) (run_on (setting_of gives fires counts limit p table) w (part_of b) (lines_of script)).comes_to r)
      → IsReport gives fires counts (wanted_at Save limit b p) script r
  save_report (First rules) r can status says = (
    table,
    are,
    subst (λ (s : RunState). IsSaved p table limit (part_of (First rules)) (run_lines (setting_of gives fires counts limit p table) s (lines_of script)).comes_to r) (sym (first_behind limit rules))
        (says empty_world refl),
  )
  save_report (Behind image) r can status says = (table, are, inr (can, status, λ w lawful is. says w (lawful, is)))

  pub run_long : (b : Beginning) → ((w : World) → BeginsIn p table b w → Long (run_on (setting_of gives fires counts limit p table) w (part_of b)) script)
      → IsLong gives fires counts (wanted_at Run limit b p) script
  run_long (First rules) long = (table, are, subst (λ (s : RunState). Long (run_lines (setting_of gives fires counts limit p table) s) script) (sym (first_behind limit rules)) (long empty_world refl))
  run_long (Behind image) long = (table, are, λ w lawful is. long w (lawful, is))

  pub save_long : (b : Beginning) → ((w : World) → BeginsIn p table b w → Long (run_on (setting_of gives fires counts limit p table) w (part_of b)) script)
      → IsLong gives fires counts (wanted_at Save limit b p) script
  save_long (First rules) long = (table, are, subst (λ (s : RunState). Long (run_lines (setting_of gives fires counts limit p table) s) script) (sym (first_behind limit rules)) (long empty_world refl))
  save_long (Behind image) long = (table, are, λ w lawful is. long w (lawful, is))

  pub run_stopped : (b : Beginning) (left before after : Option (List ℕ))
      → ((w : World) → BeginsIn p table b w → StoppedAtRead (run_on (setting_of gives fires counts limit p table) w (part_of b)) script left before after)
      → IsStopped gives fires counts (wanted_at Run limit b p) script left before after
  run_stopped (First rules) left before after stopped = λ t are'.
      by_table p (λ (u : LifeTable). StoppedAtRead (whole_run (setting_of gives fires counts limit p u)) script left before after) table t are are'
      (subst (λ (s : RunState). StoppedAtRead (run_lines (setting_of gives fires counts limit p table) s) script left before after) (sym (first_behind limit rules)) (stopped empty_world refl))
  run_stopped (Behind image) left before after stopped = λ t are' w lawful is.
      by_table p (λ (u : LifeTable). (v : World) → BeginsIn p u (Behind image) v → StoppedAtRead (run_on (setting_of gives fires counts limit p u) v image.run) script left before after) table t are are' stopped w (lawful, is)

save_stopped : (gives : Gives) (fires : Fires) (counts : Counts) (limit : ℕ) (b : Beginning) (p : Program) (script : List ℕ) (left before : Option (List ℕ))
    → IsStopped gives fires counts (wanted_at Save limit b p) script left before before
save_stopped gives fires counts limit (First rules) p script left before = refl
save_stopped gives fires counts limit (Behind image) p script left before = refl

-- the image of an engine that a run left is the one that is wanted
pub saved_so : {E : Type 0} (p : Program) (table : LifeTable) (limit : ℕ) (first : RunPart) (stands : E → World → Type 0) (e : E) (progress : Progress) (o : Option RunState) (image : Image)
    → ReachesWorld stands o (Some (e, progress)) → image.run ≡ run_part_at limit first progress → ((w : World) → stands e w → IsImageOf p table w image) → IsImage image
    → IsSaved p table limit first o (image_report image)
saved_so p table limit first stands e progress None image h run is fits = absurd h
saved_so p table limit first stands e progress (Some s) image h run is fits = (image, is s.world h.1, run ∙ ap (run_part_at limit first) h.0, fits, refl)

-- the status of an image that is written
report_status : (long small faulty : Bool) (bytes : List ℕ)
    → IsSaveStatus (if long then checkpoint_report TooLong else (if small then record { bytes = bytes; status = run_status (Script faulty) } else checkpoint_report Unfit)).status
report_status true small faulty bytes = inr refl
report_status false true false bytes = inl (inl (omega arith))
report_status false true true bytes = inl (inl (omega arith))
report_status false false faulty bytes = inr refl

pub image_status : (image : Image) → IsSaveStatus (image_report image).status
image_status image = report_status (nat_lt image_limit (length (image_bytes image))) (can_go_on image) image.run.faulty (image_bytes image)

-- the limit was met
pub limited_so : {E : Type 0} (p : Program) (table : LifeTable) (limit : ℕ) (first : RunPart) (stands : E → World → Type 0) (o : Option RunState) → ReachesWorld stands o None
    → IsSaved p table limit first o (record { bytes = limit_text limit; status = 4 })
limited_so p table limit first stands None h = refl
limited_so p table limit first stands (Some s) h = absurd h

-- the same, as far as the script is told
pub saved_told : {E : Type 0} (p : Program) (table : LifeTable) (limit : ℕ) (first : RunPart) (stands : E → World → Type 0) (e : E) (progress : Progress) (image : Image) (outcome : List ℕ → Outcome)
    (left : Option (List ℕ)) (text : List ℕ) (ended : Ended) → image.run ≡ run_part_at limit first progress → ((w : World) → stands e w → IsImageOf p table w image) → IsImage image
    → IfSome left (λ bytes. (text ≡ (outcome bytes).bytes) × (ended ≡ (outcome bytes).ended) × ReachesWorld stands (outcome bytes).comes_to (Some (e, progress)))
    → IfSome left (λ bytes. IsSaved p table limit first (outcome bytes).comes_to (image_report image))
saved_told p table limit first stands e progress image outcome None text ended run is fits h = tt
saved_told p table limit first stands e progress image outcome (Some bytes) text ended run is fits h =
    saved_so p table limit first stands e progress (outcome bytes).comes_to image h.2 run is fits

pub limited_told : {E : Type 0} (p : Program) (table : LifeTable) (limit : ℕ) (first : RunPart) (stands : E → World → Type 0) (outcome : List ℕ → Outcome)
    (left : Option (List ℕ)) (text : List ℕ) (ended : Ended)
    → IfSome left (λ bytes. (text ≡ (outcome bytes).bytes) × (ended ≡ (outcome bytes).ended) × ReachesWorld stands (outcome bytes).comes_to None)
    → IfSome left (λ bytes. IsSaved p table limit first (outcome bytes).comes_to (record { bytes = limit_text limit; status = 4 }))
limited_told p table limit first stands outcome None text ended h = tt
limited_told p table limit first stands outcome (Some bytes) text ended h = limited_so p table limit first stands (outcome bytes).comes_to h.2

-- ---- the run of a program

module _ (gives : Gives) (fires : Fires) (counts : Counts) (name : List ℕ) (image : Option (List ℕ)) (limit : ℕ) (p : Program) (table : LifeTable) (b : Beginning) (first last : ShelfSeen)
    (left left' : Option (List ℕ)) (given given' faults faults' : ℕ) (before after : Option (List ℕ)) (failed failed' : ℕ) (are : AreLives p table) (can : CanBegin p table b) where
  -- the run came to the end of the script, or to the limit of firings
  pub run_done : (More : World → List ℕ → Type 0) (e : Ended)
      → ((text : List ℕ) × (after ≡ append before text) × ((w : World) → BeginsIn p table b w → IfSome left (λ bytes.
      (text ≡ (run_on (setting_of gives fires counts limit p table) w (part_of b) (lines_of bytes)).bytes) × (e ≡ (run_on (setting_of gives fires counts limit p table) w (part_of b) (lines_of bytes)).ended) × More w bytes)))
      → ((n : ℕ) × (given' ≡ count_after given n) × AtEnd e (n ≤ 2 ^ 30) × (n ≤ 2 ^ 30 + 1))
      → AtEnd e (IfSome left' (λ bytes. bytes ≡ []))
      → RunOf gives fires counts (Some (RuleFile name Run limit image)) (Some (wanted_at Run limit b p)) (seen first left given faults before failed) (seen last left' given' faults' after failed') (run_status e)
  run_done More e done taken over = record {
    written = λ w script is tells. subst (λ (v : Wanted). IsWritten gives fires counts v script before after (run_status e)) (some_is is)
        (written_so script (tells_run limit b p left script (subst (λ (v : Wanted). TellsScript v left script) (sym (some_is is)) tells)));
    stopped = λ w script is tells stop. absurd (none_high.2 (at_least_5 (run_status e) stop));
    long = λ w script is tells eight. absurd (none_high.2 (omega (arith, eight)));
    refusal = λ w is three. absurd (none_high.1 three);
    said_usage = λ two. absurd (none_high.0 two);
    ends = ends_so (low_status e);
    file = λ three. absurd (none_high.1 three);
    read = λ five. absurd (none_high.2 (omega (arith, five)));
    checkpoint = λ nine. absurd (none_high.2 (omega (arith, nine)));
    write = λ six. absurd (none_high.2 (omega (arith, six)));
    over = λ eight. absurd (none_high.2 (omega (arith, eight)));
    taken = (taken.0, taken.1, takes_for e taken.0 taken.2 taken.3);
    nothing_left = λ low runs. at_its_end e (IfSome left' (λ bytes. bytes ≡ [])) over low;
  }
    where
      none_high : (run_status e ≡ 2 → ⊥) × (run_status e ≡ 3 → ⊥) × (5 ≤ run_status e → ⊥)
      none_high = not_high (run_status e) (low_status e)

      ends_so : IsRunStatus (run_status e) → MayEnd (Some (RuleFile name Run limit image)) (run_status e)
      ends_so (inl low) = inl low
      ends_so (inr four) = inr (omega (arith, four), omega (arith, four))

      report : Report
      report = record { bytes = done.0; status = run_status e }

      made : List ℕ → Ended → Report
      made bytes ended = record { bytes = bytes; status = run_status ended }

      written_so : (script : List ℕ) → left ≡ Some script → IsWritten gives fires counts (wanted_at Run limit b p) script before after (run_status e)
      written_so script tells =
          written_as report
          (run_report gives fires counts limit p table are script b report can (low_status e) (λ w begins. let so = rw tells at (done.2 w begins) in ap₂ made so.0 so.1))
          (λ it. (done.1, refl), λ is_high. absurd (none_high.2 is_high))

  -- the run stopped
  pub run_failed : (f : RunFault)
      → ((w : World) → BeginsIn p table b w → IfSome left (λ bytes. AppendsFront before after (run_on (setting_of gives fires counts limit p table) w (part_of b) (lines_of bytes)).bytes))
      → ((n : ℕ) × (given' ≡ count_after given n) × TakesScript (failing f) n × (n ≤ 2 ^ 30 + 1))
      → (f ≡ ReadFault → Rose faults faults') → (f ≡ WriteFault → Rose failed failed')
      → ((w : World) → BeginsIn p table b w → f ≡ ScriptLong → IfSome left (Long (run_on (setting_of gives fires counts limit p table) w (part_of b))))
      → (f ≡ ScriptLong → IfSome left (λ bytes. 2 ^ 30 < length bytes))
      → ((w : World) → BeginsIn p table b w → f ≡ ReadFault → IfSome left (λ bytes. StoppedAtRead (run_on (setting_of gives fires counts limit p table) w (part_of b)) bytes left' before after))
      → ((w : World) → BeginsIn p table b w → f ≡ ScriptLong → IfSome left (λ bytes. StoppedAtRead (run_on (setting_of gives fires counts limit p table) w (part_of b)) bytes left' before after))
      → RunOf gives fires counts (Some (RuleFile name Run limit image)) (Some (wanted_at Run limit b p)) (seen first left given faults before failed) (seen last left' given' faults' after failed') (fault_status f)
  run_failed f front taken read write long over stop_read stop_long = record {
    written = λ w script is tells. subst (λ (v : Wanted). IsWritten gives fires counts v script before after (fault_status f)) (some_is is)
        (written_so script (tells_run limit b p left script (subst (λ (v : Wanted). TellsScript v left script) (sym (some_is is)) tells)));
    stopped = λ w script is tells stop. subst (λ (v : Wanted). IsStopped gives fires counts v script left' before after) (some_is is)
        (run_stopped gives fires counts limit p table are script b left' before after (λ v begins. stopped_so v begins script tells stop));
    long = λ w script is tells eight. subst (λ (v : Wanted). IsLong gives fires counts v script) (some_is is)
        (run_long gives fires counts limit p table are script b (λ v begins. rw tells at (long v begins (is_long f eight))));
    refusal = λ w is three. absurd (omega (arith, three, (high f).0));
    said_usage = λ two. absurd (omega (arith, two, (high f).0));
    ends = inr (omega (arith, (high f).0), omega (arith, (high f).1));
    file = λ three. absurd (omega (arith, three, (high f).0));
    read = λ five. (RuleFile name Run limit image, refl, inr (inr (inl refl, read (is_read_fault f five))));
    checkpoint = λ nine. absurd (omega (arith, nine, (high f).1));
    write = λ six. write (is_write_fault f six);
    over = λ eight. (inl refl, over (is_long f eight));
    taken = (taken.0, taken.1, takes_at f taken.0 taken.2 taken.3);
    nothing_left = λ low. absurd (omega (arith, low, (high f).0));
  }
    where
      written_so : (script : List ℕ) → left ≡ Some script → IsWritten gives fires counts (wanted_at Run limit b p) script before after (fault_status f)
      written_so script tells = record {
        exact = λ low. absurd (omega (arith, low, (high f).0));
        refused = λ nine. absurd (omega (arith, nine, (high f).1));
        front = λ is_high. run_front gives fires counts limit p table are script b before after can (λ w begins. rw tells at (front w begins));
      }

      stopped_so : (w : World) → BeginsIn p table b w → (script : List ℕ) → left ≡ Some script → (fault_status f ≡ 5) ⊎ (fault_status f ≡ 8)
          → StoppedAtRead (run_on (setting_of gives fires counts limit p table) w (part_of b)) script left' before after
      stopped_so w begins script tells (inl five) = rw tells at (stop_read w begins (is_read_fault f five))
      stopped_so w begins script tells (inr eight) = rw tells at (stop_long w begins (is_long f eight))

  -- ---- the run of which the image is wanted

  -- a report was said of what the run came to, or memory was refused
  abbrev pub Saying : ℕ → Type 0
  Saying s =
      ((q : Report) × IsSaveStatus q.status
      × ((w : World) → BeginsIn p table b w → IfSome left (λ bytes. IsSaved p table limit (part_of b) (run_on (setting_of gives fires counts limit p table) w (part_of b) (lines_of bytes)).comes_to q))
      × Says before after s q)
      ⊎ ((s ≡ 7) × (after ≡ before))

  pub save_done : (e : Ended) (s : ℕ) → Saying s
      → ((s ≤ 1) × (e ≢ Limit)) ⊎ (s ≡ 4) ⊎ ((6 ≤ s) × (s ≤ 7)) ⊎ (s ≡ 9) → (s ≡ 6 → Rose failed failed')
      → MayRefuse first.files first.misses last.misses (RuleFile name Save limit image)
      → ((n : ℕ) × (given' ≡ count_after given n) × AtEnd e (n ≤ 2 ^ 30) × (n ≤ 2 ^ 30 + 1))
      → AtEnd e (IfSome left' (λ bytes. bytes ≡ []))
      → RunOf gives fires counts (Some (RuleFile name Save limit image)) (Some (wanted_at Save limit b p)) (seen first left given faults before failed) (seen last left' given' faults' after failed') s
  save_done e s said answers write may taken over = record {
    written = λ w script is tells. subst (λ (v : Wanted). IsWritten gives fires counts v script before after s) (some_is is)
        (written_so script (tells_save limit b p left script (subst (λ (v : Wanted). TellsScript v left script) (sym (some_is is)) tells)) said);
    stopped = λ w script is tells stop. absurd (none answers (inl stop));
    long = λ w script is tells eight. absurd (none answers (inl (inr eight)));
    refusal = λ w is three. absurd (none answers (inr (inr three)));
    said_usage = λ two. absurd (none answers (inr (inl two)));
    ends = ends_so answers;
    file = λ three. absurd (none answers (inr (inr three)));
    read = λ five. absurd (none answers (inl (inl five)));
    checkpoint = λ nine. (RuleFile name Save limit image, refl, may);
    write = write;
    over = λ eight. absurd (none answers (inl (inr eight)));
    taken = (taken.0, taken.1, record { most = taken.3; more = λ eight. absurd (none answers (inl (inr eight))); done = λ low. at_end_so low (n_fits taken.0 taken.2); failed = λ five. absurd (none answers (inl (inl five))) });
    nothing_left = λ low runs. at_end_so low over;
  }
    where
      none : ((s ≤ 1) × (e ≢ Limit)) ⊎ (s ≡ 4) ⊎ ((6 ≤ s) × (s ≤ 7)) ⊎ (s ≡ 9) → ((s ≡ 5) ⊎ (s ≡ 8)) ⊎ (s ≡ 2) ⊎ (s ≡ 3) → ⊥
      none (inl low) is = let below : s ≤ 1 = low.0 in grind (arith, below, is)
      none (inr others) is = grind (arith, others, is)

      ends_so : ((s ≤ 1) × (e ≢ Limit)) ⊎ (s ≡ 4) ⊎ ((6 ≤ s) × (s ≤ 7)) ⊎ (s ≡ 9) → MayEnd (Some (RuleFile name Save limit image)) s
      ends_so (inl low) = inl low.0
      ends_so (inr (inl four)) = inr (omega (arith, four), omega (arith, four))
      ends_so (inr (inr (inl both))) = inr (omega (arith, both.0), omega (arith, both.1))
      ends_so (inr (inr (inr nine))) = inr (omega (arith, nine), omega (arith, nine))

      n_fits : (n : ℕ) → AtEnd e (n ≤ 2 ^ 30) → AtEnd e (n ≤ 2 ^ 30)
      n_fits n h = h

      not_limit : s ≤ 1 → ((s ≤ 1) × (e ≢ Limit)) ⊎ (s ≡ 4) ⊎ ((6 ≤ s) × (s ≤ 7)) ⊎ (s ≡ 9) → e ≢ Limit
      not_limit low (inl h) = h.1
      not_limit low (inr others) = absurd (grind (arith, low, others))

      of_end : {P : Type 0} (ended : Ended) → ended ≢ Limit → AtEnd ended P → P
      of_end (Script faulted) never h = h
      of_end Limit never h = absurd (never refl)

      at_end_so : {P : Type 0} → s ≤ 1 → AtEnd e P → P
      at_end_so low h = of_end e (not_limit low answers) h

      written_so : (script : List ℕ) → left ≡ Some script → Saying s → IsWritten gives fires counts (wanted_at Save limit b p) script before after s
      written_so script tells (inl said) =
          written_as said.0 (save_report gives fires counts limit p table are script b said.0 can said.1 (λ w begins. rw tells at (said.2 w begins))) said.3
      written_so script tells (inr nothing) = rw nothing.1 (record {
        exact = λ low. absurd (omega (arith, low, nothing.0));
        refused = λ nine. absurd (omega (arith, nine, nothing.0));
        front = λ is_high. front_none gives fires counts (wanted_at Save limit b p) script before (none_written before);
      })

  -- the run stopped before it was saved
  pub save_failed : (f : RunFault) → after ≡ before
      → ((n : ℕ) × (given' ≡ count_after given n) × TakesScript (failing f) n × (n ≤ 2 ^ 30 + 1))
      → (f ≡ ReadFault → Rose faults faults') → (f ≡ WriteFault → Rose failed failed')
      → ((w : World) → BeginsIn p table b w → f ≡ ScriptLong → IfSome left (Long (run_on (setting_of gives fires counts limit p table) w (part_of b))))
      → (f ≡ ScriptLong → IfSome left (λ bytes. 2 ^ 30 < length bytes))
      → RunOf gives fires counts (Some (RuleFile name Save limit image)) (Some (wanted_at Save limit b p)) (seen first left given faults before failed) (seen last left' given' faults' after failed') (fault_status f)
  save_failed f same taken read write long over = rw same (record {
    written = λ w script is tells. subst (λ (v : Wanted). IsWritten gives fires counts v script before before (fault_status f)) (some_is is) (record {
      exact = λ low. absurd (omega (arith, low, (high f).0));
      refused = λ nine. absurd (omega (arith, nine, (high f).1));
      front = λ is_high. front_none gives fires counts (wanted_at Save limit b p) script before (none_written before);
    });
    stopped = λ w script is tells stop. subst (λ (v : Wanted). IsStopped gives fires counts v script left' before before) (some_is is) (save_stopped gives fires counts limit b p script left' before);
    long = λ w script is tells eight. subst (λ (v : Wanted). IsLong gives fires counts v script) (some_is is)
        (save_long gives fires counts limit p table are script b (λ v begins. rw tells at (long v begins (is_long f eight))));
    refusal = λ w is three. absurd (omega (arith, three, (high f).0));
    said_usage = λ two. absurd (omega (arith, two, (high f).0));
    ends = inr (omega (arith, (high f).0), omega (arith, (high f).1));
    file = λ three. absurd (omega (arith, three, (high f).0));
    read = λ five. (RuleFile name Save limit image, refl, inr (inr (inr refl, read (is_read_fault f five))));
    checkpoint = λ nine. absurd (omega (arith, nine, (high f).1));
    write = λ six. write (is_write_fault f six);
    over = λ eight. (inr refl, over (is_long f eight));
    taken = (taken.0, taken.1, takes_at f taken.0 taken.2 taken.3);
    nothing_left = λ low. absurd (omega (arith, low, (high f).0));
  })

-- an image does not fit
pub unfit_run : (gives : Gives) (fires : Fires) (counts : Counts) (limit : ℕ) (p : Program) (table : LifeTable) (b : Beginning) → AreLives p table → (CanBegin p table b → ⊥)
    → (script : List ℕ) → IsReport gives fires counts (wanted_at Run limit b p) script (checkpoint_report Unfit)
unfit_run gives fires counts limit p table (First rules) are never script = absurd (never tt)
unfit_run gives fires counts limit p table (Behind image) are never script = (table, are, inl (never, refl))

pub unfit_save : (gives : Gives) (fires : Fires) (counts : Counts) (limit : ℕ) (p : Program) (table : LifeTable) (b : Beginning) → AreLives p table → (CanBegin p table b → ⊥)
    → (script : List ℕ) → IsReport gives fires counts (wanted_at Save limit b p) script (checkpoint_report Unfit)
unfit_save gives fires counts limit p table (First rules) are never script = absurd (never tt)
unfit_save gives fires counts limit p table (Behind image) are never script = (table, are, inl (never, refl))

-- a checkpoint may be refused where an image is to be written
pub may_save : (told : Option (List ℕ → Option (List ℕ))) (misses misses' : List ℕ → ℕ) (name : List ℕ) (limit : ℕ) (image : Option (List ℕ)) (b : Beginning) → IsBeginningFor told Save image b
    → MayRefuse told misses misses' (RuleFile name Save limit image)
may_save told misses misses' name limit image (First rules) h = inl (refl, h (inr refl))
may_save told misses misses' name limit image (Behind i) h = inr (h.0, h.1, h.2, inr h.3)

-- the statuses of a run that is saved
pub ends_limited : {e : Ended} {s : ℕ} → (s ≡ 4) ⊎ ((6 ≤ s) × (s ≤ 7)) → ((s ≤ 1) × (e ≢ Limit)) ⊎ (s ≡ 4) ⊎ ((6 ≤ s) × (s ≤ 7)) ⊎ (s ≡ 9)
ends_limited (inl four) = inr (inl four)
ends_limited (inr both) = inr (inr (inl both))

at_script : (faulted : Bool) → Script faulted ≢ Limit
at_script faulted e = cc

pub ends_saved : (faulted : Bool) {s : ℕ} → (s ≤ 1) ⊎ ((6 ≤ s) × (s ≤ 7)) ⊎ (s ≡ 9) → ((s ≤ 1) × (Script faulted ≢ Limit)) ⊎ (s ≡ 4) ⊎ ((6 ≤ s) × (s ≤ 7)) ⊎ (s ≡ 9)
ends_saved faulted (inl low) = inl (low, at_script faulted)
ends_saved faulted (inr (inl both)) = inr (inr (inl both))
ends_saved faulted (inr (inr nine)) = inr (inr (inr nine))

pub not_nine_limited : (s : ℕ) → (s ≡ 4) ⊎ ((6 ≤ s) × (s ≤ 7)) → s ≢ 9
not_nine_limited s answers nine = grind (arith, answers, nine)
