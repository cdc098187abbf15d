-- What a desk writes, its status, and the image that it puts, with an engine of these meanings.
use Rattle.std.specs.Prelude.{◌≡◌, ◌≢◌, ◌⊎◌, ◌≤◌, ◌++◌, [], ◌∷◌, ℕ, List, Option, Some, None, IfSome, codes, is_some}
use Rattle.fx_io.specs.{Outside.{append, AppendsFront}, Lines.{lines_of}}
use Rattle.rule_model.specs.declared.life.LifeTable.{LifeTable}
use Rattle.rule_change.specs.declared.code.ChangeCode.{ChangeCode}
use Rattle.rule_world.specs.Worlds.{World}
use Rattle.line_run.specs.{declared.turn.Ended.TheVariants.{Limit}, Parts.{progress_behind}, Prompt.{whole_lines}, Run.{Done, Outcome, RunState, saves}}
use Rattle.line_run.specs.{Run.{state_after, state_in}, Saves.{ArePut}, Unfinished.{StoppedKept}}
use Rattle.script_run.specs.Live.{LiveSetting, live_by, live_step, most_firings, run_live, saved_live}
use Rattle.replay.specs.{declared.refused_checkpoint.CheckpointCode.{CheckpointCode, TheVariants.{Unfit}}, Beginnings.{BeginsIn, CanBegin, part_of}}
use Rattle.replay.specs.{Checkpoints.{checkpoint_text}, Refusals.{refusal_text}, Report.{run_status}, Wanted.{Files}}
use Rattle.desk.specs.{Keeping.{IsPutBehind, IsRefusedBehind}, Meanings.{Engines, Meanings, meanings}, declared.{live.Live.{Live}, wanted.Begun.{Begun}}}
use Rattle.desk.specs.{declared.{wanted.Changing.{Changing}, going.Inferred.{Inferred}}, Changes.{Changed, IsRefusedOver, IsUnfit, begun_over}}
use Rattle.desk.specs.{Going.{AreInferred, IsBarred, IsTold, MayGoBy, change_text, table_in}, Wanted.{Wanted, usage_line, says, refuses, refuses_image, runs}}
use Rattle.desk.specs.Wanted.{runs_over}

-- the usage line
abbrev pub usage : List ℕ
usage = codes "usage: desk [--limit N] [--image NAME] [--keep RULES2] [--text] RULES" ++ 10 ∷ []

-- one line is written, and nothing is put, or the call ends in the middle of that
abbrev pub IsSaid : List ℕ → ℕ → Option (List ℕ) → Option (List ℕ) → Option Files → Option Files → ℕ → Type 0
IsSaid line wanted before after files files' status =
    (((status ≡ wanted) × (after ≡ append before line)) ⊎ ((5 ≤ status) × (status ≤ 7) × AppendsFront before after line)) × (files' ≡ files)

-- what does not change in a live run, by a table of lives of its program
abbrev pub lines_of_run : Meanings → Live → LifeTable → LiveSetting
lines_of_run m it table = live_by (Some it.each) it.form m.gives m.fires m.counts most_firings it.program table (is_some it.image)

-- where the run begins, in a world
abbrev pub first_of : Live → World → RunState
first_of it w = state_in w (progress_behind most_firings (part_of it.beginning))

-- what lines print, from a world in which the run begins
abbrev pub live_run : Meanings → Live → LifeTable → World → List (List ℕ) → Outcome
live_run m it table w = run_live (lines_of_run m it table) (first_of it w)

-- the states whose images they put
abbrev pub live_saves : Meanings → Live → LifeTable → World → List (List ℕ) → List RunState
live_saves m it table w = saved_live (lines_of_run m it table) (first_of it w)

-- the file of the image, where one is named, is that of this state, and all others stay
abbrev pub IsKept : Live → LifeTable → RunState → Option Files → Option Files → Type 0
IsKept it table s before after = IsPutBehind it.program table it.told (part_of it.beginning) s before after it.image

-- the image of a state is refused with a code
abbrev pub IsUnkept : Live → LifeTable → RunState → CheckpointCode → Type 0
IsUnkept it table s code = IsRefusedBehind it.program table it.told (part_of it.beginning) s code

-- the images of these states are put one after the other, and then that of the state to which the run came, where it came to the end of its script
abbrev pub AreKept : Live → LifeTable → List RunState → Option RunState → Option Files → Option Files → Type 0
AreKept it table saved to before after = (middle : Option Files) × ArePut (IsKept it table) saved before middle × IfSome to (λ s. IsKept it table s middle after)

-- The run of the whole script: all that its lines print is written, the images are put, and the status says whether a line was a fault.
abbrev pub IsDone : Live → LifeTable → Outcome → List RunState → Option (List ℕ) → Option (List ℕ) → Option Files → Option Files → ℕ → Type 0
IsDone it table outcome saved before after files files' status =
    (after ≡ append before outcome.bytes) × (status ≡ run_status outcome.ended) × AreKept it table saved outcome.comes_to files files'

-- A run that ends with a fault: of some first lines of the script, whose images are put, a front is written of what they print. So what is told as
-- saved was put. The image at the end is put only behind all lines.
pub record IsCutShort (it : Live) (table : LifeTable) (outcome : List (List ℕ) → Outcome) (saved : List (List ℕ) → List RunState) (script : List ℕ) (before after : Option (List ℕ)) (files files' : Option Files) : Type 0 where
  pub lines : List (List ℕ)
  pub rest : List (List ℕ)
  pub parts : lines_of script ≡ lines ++ rest
  pub front : AppendsFront before after (outcome lines).bytes
  pub put : ArePut (IsKept it table) (saved lines) files files' ⊎ ((rest ≡ []) × AreKept it table (saved lines) (outcome lines).comes_to files files')

-- an image is refused with a code: behind all lines that of the state to which they came, or that of the state behind the next line, which saves
abbrev pub IsRefusedThere : LiveSetting → Live → LifeTable → RunState → List (List ℕ) → CheckpointCode → Type 0
IsRefusedThere live it table s [] code = IsUnkept it table s code × (it.image ≢ None)
IsRefusedThere live it table s (line ∷ more) code = (done : Done) × (live_step live s line ≡ saves done) × IsUnkept it table (state_after s done) code

-- An image is refused to which the run came: behind some first lines, whose images are put. This is written of what they print, with the line that
-- refuses it.
pub record IsRefusedIn (live : LiveSetting) (it : Live) (table : LifeTable) (first : RunState) (code : CheckpointCode) (script : List ℕ) (Written : List ℕ → Type 0) (files files' : Option Files) : Type 0 where
  pub lines : List (List ℕ)
  pub rest : List (List ℕ)
  pub parts : lines_of script ≡ lines ++ rest
  pub state : RunState
  pub comes : (run_live live first lines).comes_to ≡ Some state
  pub is_written : Written ((run_live live first lines).bytes ++ checkpoint_text code)
  pub are_put : ArePut (IsKept it table) (saved_live live first lines) files files'
  pub is_refused : IsRefusedThere live it table state rest code

-- an image is refused: the one from which the run was to begin, since it does not fit, before any line, or one to which it came
abbrev pub IsRefused : Meanings → Live → LifeTable → List ℕ → Option (List ℕ) → Option (List ℕ) → Option Files → Option Files → Type 0
IsRefused m it table script before after files files' =
    ((CanBegin it.program table it.beginning → ⊥) × (after ≡ append before (checkpoint_text Unfit)) × (files' ≡ files))
    ⊎ (CanBegin it.program table it.beginning × (code : CheckpointCode) × ((w : World) → BeginsIn it.program table it.beginning w
    → IsRefusedIn (lines_of_run m it table) it table (first_of it w) code script (λ text. after ≡ append before text) files files'))

-- a run that began ends with a fault, perhaps in the middle of the line that refuses an image to which it came
abbrev pub IsEndedEarly : Meanings → Live → LifeTable → List ℕ → Option (List ℕ) → Option (List ℕ) → Option Files → Option Files → World → Type 0
IsEndedEarly m it table script before after files files' w =
    IsCutShort it table (live_run m it table w) (live_saves m it table w) script before after files files'
    ⊎ ((code : CheckpointCode) × IsRefusedIn (lines_of_run m it table) it table (first_of it w) code script (AppendsFront before after) files files')

-- what a desk does where a live run is wanted, by a table of lives of its program and by its status
pub record LivesBy (m : Meanings) (it : Live) (table : LifeTable) (script : List ℕ) (before after : Option (List ℕ)) (files files' : Option Files) (status : ℕ) : Type 0 where
  pub done : status ≤ 1 → CanBegin it.program table it.beginning
      × ((w : World) → BeginsIn it.program table it.beginning w
      → IsDone it table (live_run m it table w (lines_of script)) (live_saves m it table w (lines_of script)) before after files files' status)
  pub cut_short : 5 ≤ status → status ≤ 8 → CanBegin it.program table it.beginning → (w : World) → BeginsIn it.program table it.beginning w
      → IsEndedEarly m it table script before after files files' w
  -- the image does not fit from which it was to begin: a front of the line that refuses it
  pub unfit : 5 ≤ status → status ≤ 8 → (CanBegin it.program table it.beginning → ⊥) → AppendsFront before after (checkpoint_text Unfit) × (files' ≡ files)
  pub refused : status ≡ 9 → IsRefused m it table script before after files files'
  -- all firings that a live run may make were made
  pub used_up : status ≡ 11 → CanBegin it.program table it.beginning × ((w : World) → BeginsIn it.program table it.beginning w
      → (after ≡ append before (live_run m it table w (lines_of script)).bytes) × ((live_run m it table w (lines_of script)).ended ≡ Limit)
      × ArePut (IsKept it table) (live_saves m it table w (lines_of script)) files files')

-- the run did not begin: a read failed, or memory was refused
abbrev pub IsUnbegun : Option (List ℕ) → Option (List ℕ) → Option Files → Option Files → ℕ → Type 0
IsUnbegun before after files files' status = (5 ≤ status) × (status ≤ 7) × (after ≡ before) × (files' ≡ files)

-- ---- by which lives it goes

-- a run by a table, of which its images say these lives
abbrev pub live_in : Begun → Option LifeTable → Live
live_in b told = record { program = b.setting.program; beginning = b.beginning; each = b.setting.each; form = b.setting.form; image = b.setting.image; told = told }

-- the table by which it goes, given the lives that are inferred
abbrev pub table_by : Begun → Inferred → LifeTable
table_by b inferred = table_in b.setting.program inferred b.beginning b.lives

-- the lives by which it goes
pub record GoesBy (b : Begun) (inferred : Inferred) (told : Option LifeTable) : Type 0 where
  pub inferred_so : AreInferred b.setting.program b.setting.later inferred
  pub told_so : IsTold inferred.own (table_by b inferred) told
  pub may_go : MayGoBy b.setting.program inferred (table_by b inferred)

-- it goes by them
abbrev pub IsGoing : Meanings → Begun → List ℕ → Option (List ℕ) → Option (List ℕ) → Option Files → Option Files → ℕ → Type 0
IsGoing m b script before after files files' status =
    (inferred : Inferred) × (told : Option LifeTable) × GoesBy b inferred told × LivesBy m (live_in b told) (table_by b inferred) script before after files files' status

-- no run may go by them, and a line says so
abbrev pub IsKeptOut : Begun → Option (List ℕ) → Option (List ℕ) → Option Files → Option Files → ℕ → Type 0
IsKeptOut b before after files files' status =
    (inferred : Inferred) × AreInferred b.setting.program b.setting.later inferred × (line : List ℕ) × IsBarred b.setting.program inferred (table_by b inferred) line
    × IsSaid line 9 before after files files' status

-- what a desk does where a live run is wanted, with what the engine for the form of its answers means
abbrev pub IsRun : Meanings → Begun → List ℕ → Option (List ℕ) → Option (List ℕ) → Option Files → Option Files → ℕ → Type 0
IsRun m b script before after files files' status =
    IsGoing m b script before after files files' status ⊎ IsKeptOut b before after files files' status ⊎ IsUnbegun before after files files' status

-- ---- behind an image of other rules

-- The rules are taken over its worlds: before its first answer it tells what becomes of each rule. Or the call ends in the middle of that.
abbrev pub IsRunOver : Meanings → (c : Changing) → Changed c → List ℕ → Option (List ℕ) → Option (List ℕ) → Option Files → Option Files → ℕ → Type 0
IsRunOver m c to script before after files files' status =
    IsGoing m (begun_over c to) script (append before to.lines) after files files' status
    ⊎ IsKeptOut (begun_over c to) before after files files' status
    ⊎ ((5 ≤ status) × (status ≤ 7) × AppendsFront before after to.lines × (files' ≡ files))

-- they are refused over them, or the image fits no world of the old rules
abbrev pub IsNotTaken : Changing → Option (List ℕ) → Option (List ℕ) → Option Files → Option Files → ℕ → Type 0
IsNotTaken c before after files files' status =
    ((code : ChangeCode) × IsRefusedOver c code × IsSaid (change_text c.setting.program code) 9 before after files files' status)
    ⊎ (IsUnfit c × IsSaid (checkpoint_text Unfit) 9 before after files files' status)

-- what a desk does where a live run is wanted behind an image of other rules
abbrev pub IsChange : Meanings → Changing → List ℕ → Option (List ℕ) → Option (List ℕ) → Option Files → Option Files → ℕ → Type 0
IsChange m c script before after files files' status =
    ((to : Changed c) × IsRunOver m c to script before after files files' status)
    ⊎ IsNotTaken c before after files files' status
    ⊎ IsUnbegun before after files files' status

-- what a desk does where this is wanted
abbrev pub IsServed : Engines → Wanted → List ℕ → Option (List ℕ) → Option (List ℕ) → Option Files → Option Files → ℕ → Type 0
IsServed engines usage_line script before after files files' status = IsSaid usage 2 before after files files' status
IsServed engines (says text) script before after files files' status = IsSaid text 0 before after files files' status
IsServed engines (refuses refusal) script before after files files' status = IsSaid (refusal_text refusal) 3 before after files files' status
IsServed engines (refuses_image code) script before after files files' status = IsSaid (checkpoint_text code) 9 before after files files' status
IsServed engines (runs b) script before after files files' status = IsRun (meanings engines b.setting.form) b script before after files files' status
IsServed engines (runs_over c) script before after files files' status = IsChange (meanings engines c.setting.form) c script before after files files' status

-- ---- when the script may be asked for more

-- Whenever it is asked, of which these bytes were taken: what was written is what the lines print that end in them, and nothing else, and the images
-- are put of those of them that save, from each world in which the run begins. Where no run is wanted, nothing was written or put.
abbrev pub IsPromptBy : Meanings → Live → LifeTable → List ℕ → Option (List ℕ) → Option (List ℕ) → Option Files → Option Files → Type 0
IsPromptBy m it table bytes before now files files' =
    (w : World) → BeginsIn it.program table it.beginning w → (now ≡ append before (live_run m it table w (whole_lines bytes)).bytes)
    × ArePut (IsKept it table) (live_saves m it table w (whole_lines bytes)) files files'

abbrev pub IsPromptRun : Meanings → Begun → List ℕ → Option (List ℕ) → Option (List ℕ) → Option Files → Option Files → Type 0
IsPromptRun m b bytes before now files files' =
    (inferred : Inferred) × (told : Option LifeTable) × GoesBy b inferred told × IsPromptBy m (live_in b told) (table_by b inferred) bytes before now files files'

abbrev pub IsPrompt : Engines → Wanted → List ℕ → Option (List ℕ) → Option (List ℕ) → Option Files → Option Files → Type 0
IsPrompt engines (runs b) bytes before now files files' = IsPromptRun (meanings engines b.setting.form) b bytes before now files files'
IsPrompt engines (runs_over c) bytes before now files files' =
    (to : Changed c) × IsPromptRun (meanings engines c.setting.form) (begun_over c to) bytes (append before to.lines) now files files'
IsPrompt engines _ bytes before now files files' = (now ≡ before) × (files' ≡ files)

-- ---- where a read fails

-- of a run of which the rest of the script is left: what was written is what the lines print that were taken with their ends, and exactly their images
-- are put
abbrev pub IsStoppedBy : Meanings → Live → LifeTable → List ℕ → Option (List ℕ) → Option (List ℕ) → Option (List ℕ) → Option Files → Option Files → Type 0
IsStoppedBy m it table script left before after files files' = (w : World) → BeginsIn it.program table it.beginning w
    → StoppedKept (IsKept it table) (live_run m it table w) (live_saves m it table w) script left before after files files'

-- or it did not begin
abbrev pub IsStoppedRun : Meanings → Begun → List ℕ → Option (List ℕ) → Option (List ℕ) → Option (List ℕ) → Option Files → Option Files → Type 0
IsStoppedRun m b script left before after files files' =
    ((inferred : Inferred) × (told : Option LifeTable) × GoesBy b inferred told × IsStoppedBy m (live_in b told) (table_by b inferred) script left before after files files')

abbrev pub IsUntaken : List ℕ → Option (List ℕ) → Option (List ℕ) → Option (List ℕ) → Option Files → Option Files → Type 0
IsUntaken script left before after files files' = (left ≡ Some script) × (after ≡ before) × (files' ≡ files)

abbrev pub IsStopped : Engines → Wanted → List ℕ → Option (List ℕ) → Option (List ℕ) → Option (List ℕ) → Option Files → Option Files → Type 0
IsStopped engines (runs b) script left before after files files' =
    IsStoppedRun (meanings engines b.setting.form) b script left before after files files' ⊎ IsUntaken script left before after files files'
IsStopped engines (runs_over c) script left before after files files' =
    ((to : Changed c) × IsStoppedRun (meanings engines c.setting.form) (begun_over c to) script left (append before to.lines) after files files')
    ⊎ IsUntaken script left before after files files'
IsStopped engines _ script left before after files files' = (after ≡ before) × (files' ≡ files)
