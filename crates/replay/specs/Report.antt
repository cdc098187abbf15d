-- What the program writes, and its status, with an engine of these meanings.
use Rattle.std.specs.Prelude.{◌≡◌, ◌⊎◌, ◌<◌, ◌≤◌, ◌+◌, ◌^◌, ℕ, true, false, List, length, nat_lt, Option, Some, None, if◌then◌else◌}
use Rattle.fx_io.specs.{Outside.{append, AppendsFront}, Lines.{lines_of}}
use Rattle.rule_model.specs.declared.{life.LifeTable.{LifeTable}, program.Program.{Program}}
use Rattle.life_meaning.specs.Tables.{AreLives}
use Rattle.gen_load.specs.Script.{script_text}
use Rattle.script_run.specs.{declared.run_fault.RunFault.{RunFault, TheVariants.{ReadFault, WriteFault, NoMemory, ScriptLong}}, Firings.{Gives, Fires, Counts}}
use Rattle.script_run.specs.{Parts.{run_on}, Run.{setting_of, whole_run}, Texts.{limit_text}, Unfinished.{Long}}
use Rattle.line_run.specs.{declared.turn.Ended.{Ended, TheVariants.{Script, Limit}}, Parts.{first_part, run_part_at}, Prompt.{whole_lines}, Run.{Outcome}}
use Rattle.line_run.specs.{Run.{RunState}, Unfinished.{StoppedAtRead}}
use Rattle.checkpoint.specs.{declared.image.{Image.{Image}, RunPart.{RunPart}}, Bytes.{image_bytes, IsImage}}
use Rattle.image_laws.specs.{Fitting.{Fits}, Images.{IsImageOf}}
use Rattle.rule_world.specs.{Lawful.{IsLawful}, Worlds.{World}}
use Rattle.replay.specs.{declared.refused_checkpoint.CheckpointCode.{CheckpointCode, TheVariants.{TooLong, Unfit}}, Checkpoints.{can_go_on, checkpoint_text}}
use Rattle.replay.specs.{Checkpoints.{image_limit}, Refusals.{refusal_text}, Certificates.{proof_text}, Summary.{summary_text}, Notices.{usage, accepted_text}}
use Rattle.replay.specs.{Notices.{lives_text}, Wanted.{Wanted, usage_line, refuses, refuses_checkpoint, runs, resumes, saves, saves_on, accepts, tells_lives}}
use Rattle.replay.specs.Wanted.{proves, sums_up}
use Rattle.life_proof.specs.{declared.part.Proof.{Proof}, Good.{IsGood}}

-- what is written, and the status
pub record Report : Type 0 where
  pub bytes : List ℕ
  pub status : ℕ

abbrev pub run_status : Ended → ℕ
run_status (Script false) = 0
run_status (Script true) = 1
run_status Limit = 4

abbrev pub fault_status : RunFault → ℕ
fault_status ReadFault = 5
fault_status WriteFault = 6
fault_status NoMemory = 7
fault_status ScriptLong = 8

abbrev pub outcome_report : Outcome → Report
outcome_report outcome = record { bytes = outcome.bytes; status = run_status outcome.ended }

-- the summary of what a run prints, with the status of the run
abbrev pub summary_report : ℕ → Outcome → Report
summary_report number outcome = record { bytes = summary_text number outcome.bytes; status = run_status outcome.ended }

abbrev pub checkpoint_report : CheckpointCode → Report
checkpoint_report code = record { bytes = checkpoint_text code; status = 9 }

-- an image that is written: it has at most 1 GiB, and a run can go on from it
abbrev pub image_report : Image → Report
image_report image = if nat_lt image_limit (length (image_bytes image)) then checkpoint_report TooLong
    else (if can_go_on image then record { bytes = image_bytes image; status = run_status (Script image.run.faulty) } else checkpoint_report Unfit)

-- What is written of a run of which the image is wanted: the line of the limit, where that was met, or else the image of the world that the
-- run comes to, with what it says of the run that began behind this part, and which its bytes are read back as.
abbrev pub IsSaved : Program → LifeTable → ℕ → RunPart → Option RunState → Report → Type 0
IsSaved p table limit first None r = r ≡ record { bytes = limit_text limit; status = 4 }
IsSaved p table limit first (Some s) r =
    (image : Image) × IsImageOf p table s.world image × (image.run ≡ run_part_at limit first s.progress) × IsImage image × (r ≡ image_report image)

-- the statuses of a run, and of one that is saved
abbrev pub IsRunStatus : ℕ → Type 0
IsRunStatus status = (status ≤ 1) ⊎ (status ≡ 4)

abbrev pub IsSaveStatus : ℕ → Type 0
IsSaveStatus status = IsRunStatus status ⊎ (status ≡ 9)

-- What is written behind an image: that it does not fit, or what is said of each lawful world of which it is the image. Of an image of no
-- world nothing is said but the status.
abbrev pub IsToldBehind : Program → LifeTable → Image → (ℕ → Type 0) → (World → Report → Type 0) → Report → Type 0
IsToldBehind p table image Ends Says r =
    ((Fits p table image → ⊥) × (r ≡ checkpoint_report Unfit))
    ⊎ (Fits p table image × Ends r.status × ((w : World) → IsLawful p w → IsImageOf p table w image → Says w r))

-- what is written behind the image of some world
abbrev pub IsBehindSome : Program → LifeTable → Image → (World → Report → Type 0) → Report → Type 0
IsBehindSome p table image Says r =
    ((Fits p table image → ⊥) × (r ≡ checkpoint_report Unfit))
    ⊎ (Fits p table image × (w : World) × IsLawful p w × IsImageOf p table w image × Says w r)

-- the lines behind an image, in a world of it
abbrev pub IsRunBehind : Gives → Fires → Counts → ℕ → Program → LifeTable → Image → List ℕ → World → Report → Type 0
IsRunBehind gives fires counts limit p table image script w r =
    r ≡ outcome_report (run_on (setting_of gives fires counts limit p table) w image.run (lines_of script))

-- the image of the run behind an image, in a world of it
abbrev pub IsSavedBehind : Gives → Fires → Counts → ℕ → Program → LifeTable → Image → List ℕ → World → Report → Type 0
IsSavedBehind gives fires counts limit p table image script w r =
    IsSaved p table limit image.run (run_on (setting_of gives fires counts limit p table) w image.run (lines_of script)).comes_to r

-- What is written where this is wanted, and the status: the usage line; the refusal; the run of the script, by the table of the lives of
-- the program's types; that behind an image; the image that either comes to; the numbers of types and rules of the program; the lives of its types, by the table that has them; good
-- certificates of these lives; the summary of the run of the script of a load, by such a table.
abbrev pub IsReport : Gives → Fires → Counts → Wanted → List ℕ → Report → Type 0
IsReport gives fires counts usage_line script r = r ≡ record { bytes = usage; status = 2 }
IsReport gives fires counts (refuses refusal) script r = r ≡ record { bytes = refusal_text refusal; status = 3 }
IsReport gives fires counts (refuses_checkpoint code) script r = r ≡ checkpoint_report code
IsReport gives fires counts (resumes limit image program) script r =
    (table : LifeTable) × AreLives program table × IsToldBehind program table image IsRunStatus (IsRunBehind gives fires counts limit program table image script) r
IsReport gives fires counts (saves limit rules program) script r =
    (table : LifeTable) × AreLives program table
    × IsSaved program table limit (first_part rules) (whole_run (setting_of gives fires counts limit program table) (lines_of script)).comes_to r
IsReport gives fires counts (saves_on limit image program) script r =
    (table : LifeTable) × AreLives program table × IsToldBehind program table image IsSaveStatus (IsSavedBehind gives fires counts limit program table image script) r
IsReport gives fires counts (runs limit program) script r =
    (table : LifeTable) × AreLives program table × (r ≡ outcome_report (whole_run (setting_of gives fires counts limit program table) (lines_of script)))
IsReport gives fires counts (accepts program) script r = r ≡ record { bytes = accepted_text program; status = 0 }
IsReport gives fires counts (tells_lives program) script r =
    (table : LifeTable) × AreLives program table × (r ≡ record { bytes = lives_text program.types table.lives; status = 0 })
IsReport gives fires counts (proves program) script r =
    (table : LifeTable) × AreLives program table × (certificate : Proof) × IsGood program table certificate × (r ≡ record { bytes = proof_text program certificate; status = 0 })
IsReport gives fires counts (sums_up number limit program) script r =
    (table : LifeTable) × AreLives program table
    × (r ≡ summary_report number (whole_run (setting_of gives fires counts limit program table) (lines_of (script_text number))))

-- the written bytes and the status are those of the report
abbrev pub Reports : Option (List ℕ) → Option (List ℕ) → ℕ → Report → Type 0
Reports before after status r = (after ≡ append before r.bytes) × (status ≡ r.status)

-- what is wanted has one report: certificates have several, and of an image of no world nothing is said
abbrev pub IsDefinite : Wanted → Type 0
IsDefinite usage_line = Unit {0}
IsDefinite (refuses refusal) = Unit {0}
IsDefinite (refuses_checkpoint code) = Unit {0}
IsDefinite (runs limit program) = Unit {0}
IsDefinite (resumes limit image program) = ⊥
IsDefinite (saves limit rules program) = Unit {0}
IsDefinite (saves_on limit image program) = ⊥
IsDefinite (accepts program) = Unit {0}
IsDefinite (tells_lives program) = Unit {0}
IsDefinite (proves program) = ⊥
IsDefinite (sums_up number limit program) = Unit {0}

-- the front of each report
abbrev pub IsFrontOfEach : Gives → Fires → Counts → Wanted → List ℕ → Option (List ℕ) → Option (List ℕ) → Type 0
IsFrontOfEach gives fires counts wanted script before after = (r : Report) → IsReport gives fires counts wanted script r → AppendsFront before after r.bytes

-- the front of the report, behind an image of that of each of its worlds; of certificates nothing, or the front of some of the reports
abbrev pub IsFront : Gives → Fires → Counts → Wanted → List ℕ → Option (List ℕ) → Option (List ℕ) → Type 0
IsFront gives fires counts usage_line script before after = IsFrontOfEach gives fires counts usage_line script before after
IsFront gives fires counts (refuses refusal) script before after = IsFrontOfEach gives fires counts (refuses refusal) script before after
IsFront gives fires counts (refuses_checkpoint code) script before after = IsFrontOfEach gives fires counts (refuses_checkpoint code) script before after
IsFront gives fires counts (resumes limit image program) script before after =
    (table : LifeTable) → AreLives program table → (r : Report) → IsBehindSome program table image (IsRunBehind gives fires counts limit program table image script) r
    → AppendsFront before after r.bytes
IsFront gives fires counts (saves limit rules program) script before after = IsFrontOfEach gives fires counts (saves limit rules program) script before after
IsFront gives fires counts (saves_on limit image program) script before after =
    (table : LifeTable) → AreLives program table → (r : Report) → IsBehindSome program table image (IsSavedBehind gives fires counts limit program table image script) r
    → AppendsFront before after r.bytes
IsFront gives fires counts (runs limit program) script before after = IsFrontOfEach gives fires counts (runs limit program) script before after
IsFront gives fires counts (accepts program) script before after = IsFrontOfEach gives fires counts (accepts program) script before after
IsFront gives fires counts (tells_lives program) script before after = IsFrontOfEach gives fires counts (tells_lives program) script before after
IsFront gives fires counts (proves program) script before after =
    (after ≡ before) ⊎ ((r : Report) × IsReport gives fires counts (proves program) script r × AppendsFront before after r.bytes)
IsFront gives fires counts (sums_up number limit program) script before after = IsFrontOfEach gives fires counts (sums_up number limit program) script before after

-- what is written with a status where this is wanted: with one up to 4, and with 9, exactly a report, else a front of it
pub record IsWritten (gives : Gives) (fires : Fires) (counts : Counts) (wanted : Wanted) (script : List ℕ) (before after : Option (List ℕ)) (status : ℕ) : Type 0 where
  pub exact : status ≤ 4 → (r : Report) × IsReport gives fires counts wanted script r × Reports before after status r
  pub refused : status ≡ 9 → (r : Report) × IsReport gives fires counts wanted script r × Reports before after status r
  pub front : 5 ≤ status → IsFront gives fires counts wanted script before after

-- ---- runs that stop before the end of the script

-- the same of a run behind an image, in each of its worlds
abbrev pub IsLongBehind : Gives → Fires → Counts → ℕ → Program → Image → List ℕ → Type 0
IsLongBehind gives fires counts limit p image script =
    (table : LifeTable) × AreLives p table
    × ((w : World) → IsLawful p w → IsImageOf p table w image → Long (run_on (setting_of gives fires counts limit p table) w image.run) script)

-- a run is wanted, and its script is one of more than 1 GiB that did not meet the limit before
abbrev pub IsLong : Gives → Fires → Counts → Wanted → List ℕ → Type 0
IsLong gives fires counts (runs limit program) script =
    (table : LifeTable) × AreLives program table × Long (whole_run (setting_of gives fires counts limit program table)) script
IsLong gives fires counts (saves limit rules program) script =
    (table : LifeTable) × AreLives program table × Long (whole_run (setting_of gives fires counts limit program table)) script
IsLong gives fires counts (resumes limit image program) script = IsLongBehind gives fires counts limit program image script
IsLong gives fires counts (saves_on limit image program) script = IsLongBehind gives fires counts limit program image script
IsLong gives fires counts _ script = ⊥

-- a read failed, or the script is too long: of a run, what was written is what the lines print that were taken with their ends, or all lines
-- of the script; of all else nothing was written
abbrev pub IsStopped : Gives → Fires → Counts → Wanted → List ℕ → Option (List ℕ) → Option (List ℕ) → Option (List ℕ) → Type 0
IsStopped gives fires counts (runs limit program) script left before after =
    (table : LifeTable) → AreLives program table → StoppedAtRead (whole_run (setting_of gives fires counts limit program table)) script left before after
IsStopped gives fires counts (resumes limit image program) script left before after =
    (table : LifeTable) → AreLives program table → (w : World) → IsLawful program w → IsImageOf program table w image
    → StoppedAtRead (run_on (setting_of gives fires counts limit program table) w image.run) script left before after
IsStopped gives fires counts _ script left before after = after ≡ before

-- What is written while a run waits for more of its script, of which these bytes were taken: what the lines print that end in them, and nothing
-- else; behind an image that holds in each of its worlds. In all else nothing is.
abbrev pub IsPrompt : Gives → Fires → Counts → Wanted → List ℕ → Option (List ℕ) → Option (List ℕ) → Type 0
IsPrompt gives fires counts (runs limit program) bytes before now =
    (table : LifeTable) → AreLives program table → now ≡ append before (whole_run (setting_of gives fires counts limit program table) (whole_lines bytes)).bytes
IsPrompt gives fires counts (resumes limit image program) bytes before now =
    (table : LifeTable) → AreLives program table → (w : World) → IsLawful program w → IsImageOf program table w image
    → now ≡ append before (run_on (setting_of gives fires counts limit program table) w image.run (whole_lines bytes)).bytes
IsPrompt gives fires counts _ bytes before now = now ≡ before

-- how many bytes of the script are taken for this status: never more than one beyond 1 GiB
pub record TakesFor (status n : ℕ) : Type 0 where
  pub most : n ≤ 2 ^ 30 + 1
  pub more : status ≡ 8 → 2 ^ 30 < n
  pub done : status ≤ 1 → n ≤ 2 ^ 30
  pub failed : status ≡ 5 → n ≤ 2 ^ 30
