-- A run that goes on behind the image of an earlier one: when it is refused, and the run of both scripts as one.
use Rattle.std.specs.Prelude.{◌≡◌, ◌≤◌, ◌++◌, ℕ, List, Option, Some}
use Rattle.fx_io.specs.{Lines.{lines_of}, Outside.{append}}
use Rattle.script_read.specs.declared.asked.Change.{Change}
use Rattle.checkpoint.specs.declared.image.Image.{Image}
use Rattle.answer_lines.specs.declared.lines.OutLine.{OutLine}
use Rattle.image_laws.specs.{Fitting.{Fits}, Images.{IsImageOf}}
use Rattle.rule_model.specs.declared.{life.LifeTable.{LifeTable}, program.Program.{Program}}
use Rattle.life_meaning.specs.Tables.{AreLives}
use Rattle.rule_world.specs.{Lawful.{IsLawful}, Programs.{IsRunnable}, Worlds.{World}}
use Rattle.script_run.specs.{Firings.{Gives, Fires, Counts}, Run.{setting_of, whole_run}}
use Rattle.line_run.specs.{Parts.{EndsLine, first_part, run_part_at}, Run.{RunState}}
use Rattle.replay.specs.{Checkpoints.{checkpoint_of, has_image}, Report.{Report, Reports, IsSaved, run_status}, Wanted.{Wanted, refuses_checkpoint, resumes}}
use Rattle.replay.specs.Wanted.{saves, saves_on}

-- the checkpoint that a run is to go on from is refused: it is no image of the rules, or does not fit them
abbrev pub IsUnread : Wanted → Type 0
IsUnread (refuses_checkpoint code) = Unit {0}
IsUnread (resumes limit image p) = (table : LifeTable) → AreLives p table → Fits p table image → ⊥
IsUnread (saves_on limit image p) = (table : LifeTable) → AreLives p table → Fits p table image → ⊥
IsUnread _ = ⊥

-- ---- worlds that runs come to

-- a world that a run can come to: it is lawful, and ids and tags are given from 1 on
pub record IsSoundWorld (p : Program) (w : World) : Type 0 where
  pub lawful : IsLawful p w
  pub ids : 1 ≤ w.next_id
  pub tags : 1 ≤ w.next_tag

-- changes and firings by these meanings lead from such worlds to such worlds
pub record KeepWorlds (gives : Gives) (fires : Fires) : Type 0 where
  pub changes : (p : Program) (w : World) (change : Change) → IsRunnable p → IsSoundWorld p w → IsSoundWorld p (gives p w change).1
  pub firings : (p : Program) (w : World) (f : List OutLine × World) → IsRunnable p → IsSoundWorld p w → fires p w ≡ Some f → IsSoundWorld p f.1

-- ---- images of runs

-- The image is that of what the run of a script comes to, with this limit: the script is empty or ends with a line end, and its run does not
-- meet the limit. The limit is that of the run which goes on; what the run that was saved had for one does not matter.
pub record IsImageOfRun (gives : Gives) (fires : Fires) (counts : Counts) (limit : ℕ) (p : Program) (table : LifeTable) (script : List ℕ) (image : Image) : Type 0 where
  pub ends : EndsLine script
  pub state : RunState
  pub comes_to : (whole_run (setting_of gives fires counts limit p table) (lines_of script)).comes_to ≡ Some state
  pub is_image : IsImageOf p table state.world image
  pub run : image.run ≡ run_part_at limit (first_part image.run.rules) state.progress

-- these bytes are taken as the checkpoint of rules with this text: they are an image, which fits, and is that of the run of the script
pub record AreTaken (gives : Gives) (fires : Fires) (counts : Counts) (limit : ℕ) (p : Program) (table : LifeTable) (rules script bytes : List ℕ) : Type 0 where
  pub image : Image
  pub read : checkpoint_of rules bytes ≡ has_image image
  pub fits : Fits p table image
  pub of_run : IsImageOfRun gives fires counts limit p table script image

-- What was written is taken as a checkpoint: that of the run of a script, or, behind the image of the run of a first one, that of the run of both
-- as one. The script is empty or ends with a line end. Of all else nothing is said.
abbrev pub IsTakenAgain : Gives → Fires → Counts → Wanted → List ℕ → List ℕ → Option (List ℕ) → Option (List ℕ) → Type 0
IsTakenAgain gives fires counts (saves limit rules p) first script before after =
    (table : LifeTable) → AreLives p table → EndsLine script
    → (text : List ℕ) × (after ≡ append before text) × AreTaken gives fires counts limit p table rules script text
IsTakenAgain gives fires counts (saves_on limit image p) first script before after =
    (table : LifeTable) → AreLives p table → EndsLine script → IsImageOfRun gives fires counts limit p table first image
    → (text : List ℕ) × (after ≡ append before text) × AreTaken gives fires counts limit p table image.run.rules (first ++ script) text
IsTakenAgain gives fires counts _ first script before after = Unit {0}

-- ---- both scripts as one

-- the bytes that are written, and the status, are those of the run of both scripts as one, without the lines of the first
pub record IsRest (gives : Gives) (fires : Fires) (counts : Counts) (limit : ℕ) (p : Program) (table : LifeTable) (first second : List ℕ) (before after : Option (List ℕ)) (status : ℕ) : Type 0 where
  pub text : List ℕ
  pub lines : (whole_run (setting_of gives fires counts limit p table) (lines_of (first ++ second))).bytes
      ≡ (whole_run (setting_of gives fires counts limit p table) (lines_of first)).bytes ++ text
  pub written : after ≡ append before text
  pub ends : status ≡ run_status (whole_run (setting_of gives fires counts limit p table) (lines_of (first ++ second))).ended

-- what is written, and the status, are those of a run of both scripts as one that is saved
abbrev pub IsSavedRest : Gives → Fires → Counts → ℕ → Program → LifeTable → List ℕ → List ℕ → List ℕ → Option (List ℕ) → Option (List ℕ) → ℕ → Type 0
IsSavedRest gives fires counts limit p table rules first second before after status =
    (r : Report) × IsSaved p table limit (first_part rules) (whole_run (setting_of gives fires counts limit p table) (lines_of (first ++ second))).comes_to r
    × Reports before after status r

-- The same of a run that is wanted behind the image of what the run of the first script comes to: the rest of its lines, or the image of both. Of
-- all else nothing is said.
abbrev pub GoesOn : Gives → Fires → Counts → Wanted → List ℕ → List ℕ → Option (List ℕ) → Option (List ℕ) → ℕ → Type 0
GoesOn gives fires counts (resumes limit image p) first second before after status =
    (table : LifeTable) → AreLives p table → IsImageOfRun gives fires counts limit p table first image → IsRest gives fires counts limit p table first second before after status
GoesOn gives fires counts (saves_on limit image p) first second before after status =
    (table : LifeTable) → AreLives p table → IsImageOfRun gives fires counts limit p table first image
    → IsSavedRest gives fires counts limit p table image.run.rules first second before after status
GoesOn gives fires counts _ first second before after status = Unit {0}

-- behind an image that fits, where it is that of the run of the first script, the one to be written is refused as that of both as one
abbrev pub IsRefusedOn : Gives → Fires → Counts → Wanted → List ℕ → List ℕ → Option (List ℕ) → Option (List ℕ) → ℕ → Type 0
IsRefusedOn gives fires counts (saves_on limit image p) first second before after status =
    (table : LifeTable) → AreLives p table → Fits p table image → IsImageOfRun gives fires counts limit p table first image
    → IsSavedRest gives fires counts limit p table image.run.rules first second before after status
IsRefusedOn gives fires counts _ first second before after status = Unit {0}
