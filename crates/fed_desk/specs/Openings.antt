-- How a desk is opened over the bytes of a rule file, and of an image, where one is given.
use Rattle.std.specs.Prelude.{◌≡◌, ◌⊎◌, ℕ, true, false, List, [], Option, Some, None, is_some}
use Rattle.life_meaning.specs.Tables.{AreLives}
use Rattle.rule_model.specs.declared.{life.LifeTable.{LifeTable}, program.Program.{Program}}
use Rattle.rule_world.specs.Worlds.{World}
use Rattle.line_run.specs.{Parts.{progress_behind}, Run.{state_in}}
use Rattle.script_run.specs.{Firings.{Counts, Fires, Gives}, Forms.{form_for}, Live.{LiveSetting, live_by, most_firings}}
use Rattle.replay.specs.declared.{beginning.Beginning.{Beginning, TheVariants.{First, Behind}}, refused_checkpoint.CheckpointCode.{CheckpointCode}}
use Rattle.replay.specs.declared.{refused_checkpoint.CheckpointCode.TheVariants.{Unfit}, refusal.Refusal.{Refusal}, rule_file.Reading.TheVariants.{Accepted}}
use Rattle.replay.specs.{declared.rule_file.Reading.TheVariants.{Refused}, Beginnings.{BeginsIn, CanBegin, part_of}, Checkpoints.{Checkpoint, checkpoint_of}}
use Rattle.replay.specs.{Checkpoints.{checkpoint_text, has_image, is_refused, rules_shown}, Names.{names_read}, Refusals.{reading, refusal_text}}
use Rattle.fed_desk.specs.{Runs.{FedCourse, HasCome}, declared.{desk.Desk.{Desk}, lines.Lines.{Lines}, opening.{Options.{Options}, OpenFault.{OpenFault}}}}
use Rattle.fed_desk.specs.declared.opening.StartFault.{StartFault}
use Rattle.fed_desk.specs.declared.opening.OpenFault.TheVariants as fault
use Rattle.fed_desk.specs.declared.opening.StartFault.TheVariants as start_fault

-- ---- where it opens_from

pub data FedStart : Type 0 where
  opens_from : Beginning → FedStart
  -- the image is refused
  cannot_open : CheckpointCode → FedStart

abbrev pub fed_start_behind : Checkpoint → FedStart
fed_start_behind (has_image image) = opens_from (Behind image)
fed_start_behind (is_refused code) = cannot_open code

-- of rules with this text: in the empty world, or behind an image of them
abbrev pub fed_start : List ℕ → Option (List ℕ) → FedStart
fed_start rules None = opens_from (First rules)
fed_start rules (Some bytes) = fed_start_behind (checkpoint_of rules bytes)

-- ---- by what it goes

-- no file is named for its image
abbrev pub live_of : Gives → Fires → Counts → Options → List ℕ → Program → LifeTable → LiveSetting
live_of gives fires counts options rules program table =
    live_by (Some options.each) (form_for options.text (names_read rules)) gives fires counts most_firings program table false

-- from a beginning, in a world
abbrev pub course_in : LiveSetting → Beginning → World → FedCourse
course_in live beginning w = record { live = live; part = part_of beginning; first = state_in w (progress_behind most_firings (part_of beginning)) }

-- ---- what becomes of it

-- It is open, of this program, where it opens_from there: in each world of the beginning, before the first byte.
pub record IsOpenIn {E : Type 0} {g : _} (stands : E → World → Type 0) (setting : Lines E → LiveSetting) (live : LifeTable → LiveSetting) (program : Program) (it : FedStart) (desk : Desk E g) : Type 0 where
  pub table : LifeTable
  pub lives : AreLives program table
  pub beginning : Beginning
  pub starts : it ≡ opens_from beginning
  pub can_begin : CanBegin program table beginning
  pub has_come : (w : World) → BeginsIn program table beginning w → HasCome stands setting (course_in (live table) beginning w) [] [] desk
  pub goes : is_some desk.run ≡ true

-- it is open, of these rules and this image
abbrev pub IsOpen : {E : Type 0} {g : _} → (E → World → Type 0) → (Lines E → LiveSetting) → (Program → LifeTable → LiveSetting) → List ℕ → Option (List ℕ) → Desk E g → Type 0
IsOpen stands setting live rules image desk =
    (program : Program) × (reading rules ≡ Accepted program) × IsOpenIn stands setting (live program) program (fed_start (rules_shown rules) image) desk

-- the rules are refused, with this line
abbrev pub RefusesRules : List ℕ → List ℕ → Type 0
RefusesRules rules line = (refusal : Refusal) × (reading rules ≡ Refused refusal) × (line ≡ refusal_text refusal)

-- the image fits no world of the rules
abbrev pub FitsNoBeginning : Program → FedStart → Type 0
FitsNoBeginning program it = (table : LifeTable) × AreLives program table × (beginning : Beginning) × (it ≡ opens_from beginning) × (CanBegin program table beginning → ⊥)

-- the image is refused, with this line
abbrev pub RefusesImageOf : Program → FedStart → List ℕ → Type 0
RefusesImageOf program it line =
    (code : CheckpointCode) × (line ≡ checkpoint_text code) × ((it ≡ cannot_open code) ⊎ ((code ≡ Unfit) × FitsNoBeginning program it))

abbrev pub RefusesImage : List ℕ → Option (List ℕ) → List ℕ → Type 0
RefusesImage rules image line = (program : Program) × (reading rules ≡ Accepted program) × RefusesImageOf program (fed_start (rules_shown rules) image) line

-- why a desk of this program is not opened
abbrev pub TellsImageFault : Program → FedStart → OpenFault → Type 0
TellsImageFault program it (fault.Rules line) = ⊥
TellsImageFault program it (fault.Image line) = RefusesImageOf program it line.items
TellsImageFault program it fault.NoMemory = Unit {0}

-- why a desk of these rules is not opened
abbrev pub TellsOpenFault : List ℕ → Option (List ℕ) → OpenFault → Type 0
TellsOpenFault rules image (fault.Rules line) = RefusesRules rules line.items
TellsOpenFault rules image (fault.Image line) = RefusesImage rules image line.items
TellsOpenFault rules image fault.NoMemory = Unit {0}

-- why there is no beginning
abbrev pub TellsNoBeginning : FedStart → StartFault → Type 0
TellsNoBeginning it (start_fault.Refused code) = it ≡ cannot_open code
TellsNoBeginning it start_fault.NoMemory = Unit {0}
