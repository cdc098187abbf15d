-- What the words and the rule file ask for.
use Rattle.std.{specs.Prelude.{ℕ, ◌≡◌, ◌⊎◌, List, [], Option, Some, None}, proofs.Common.{String, Global}}
use Rattle.fx_io.specs.Outside.{Rose}
use Rattle.command_words.specs.declared.asking.{Asked.{Asked, TheVariants.{RuleFile, Load}}, Mode.{Mode, TheVariants.{Run, Check, Lives, Proof, Save}}}
use Rattle.command_words.specs.Asked.{asked_by}
use Rattle.checkpoint.specs.declared.image.Image.{Image}
use Rattle.gen_load.specs.Rules.{rules_text}
use Rattle.rule_model.specs.declared.program.Program.{Program}
use Rattle.replay.specs.declared.{refusal.{Refusal.{Refusal}, RefusalCode.TheVariants.{Missing}}, rule_file.Reading.{Reading, TheVariants.{Accepted, Refused}}}
use Rattle.replay.specs.{declared.beginning.Beginning.{Beginning, TheVariants.{First, Behind}}, Beginnings.{RunsIn, RefusesFor}}
use Rattle.replay.specs.{declared.refused_checkpoint.CheckpointCode.{CheckpointCode}, Checkpoints.{Checkpoint, has_image, is_refused, checkpoint_in}}
use Rattle.replay.specs.{Checkpoints.{rules_shown}, Refusals.{reading, whole_file, IsRefusedReading}}

pub data Wanted : Type 0 where
  -- the usage line: the words are refused
  usage_line : Wanted
  -- the refusal of a rule file, which is missing or not accepted
  refuses : Refusal → Wanted
  -- the refusal of a checkpoint, which is missing or no image of the rules
  refuses_checkpoint : CheckpointCode → Wanted
  -- the run of the script over a program, with at most so many firings
  runs : ℕ → Program → Wanted
  -- the run of the script behind an image, with at most so many firings in all
  resumes : ℕ → Image → Program → Wanted
  -- the image that the run of the script comes to, of rules with this text
  saves : ℕ → List ℕ → Program → Wanted
  -- the image that the run of the script behind an image comes to
  saves_on : ℕ → Image → Program → Wanted
  -- that the rule file of a program is accepted
  accepts : Program → Wanted
  -- the lives of the types of a program
  tells_lives : Program → Wanted
  -- certificates of the lives of the types of a program
  proves : Program → Wanted
  -- the summary of a run over the load of this number: that of its script over a program, with at most so many firings
  sums_up : ℕ → ℕ → Program → Wanted

-- the files of a shelf by their names
abbrev pub Files : Type 0
Files = List ℕ → Option (List ℕ)

-- of the program of an accepted file with this text, in a mode and with a limit of firings
abbrev pub wanted_of : Mode → ℕ → List ℕ → Program → Wanted
wanted_of Run limit rules = runs limit
wanted_of Check limit rules = accepts
wanted_of Lives limit rules = tells_lives
wanted_of Proof limit rules = proves
wanted_of Save limit rules = saves limit rules

-- the same where a checkpoint is asked for, which the modes that run no script do not look at
abbrev pub wanted_behind : Mode → ℕ → Checkpoint → Program → Wanted
wanted_behind Run limit (has_image image) = resumes limit image
wanted_behind Run limit (is_refused code) = λ p. refuses_checkpoint code
wanted_behind Check limit checkpoint = accepts
wanted_behind Lives limit checkpoint = tells_lives
wanted_behind Proof limit checkpoint = proves
wanted_behind Save limit (has_image image) = saves_on limit image
wanted_behind Save limit (is_refused code) = λ p. refuses_checkpoint code

abbrev pub wanted_by_reading : (Program → Wanted) → Reading → Wanted
wanted_by_reading of_program (Accepted program) = of_program program
wanted_by_reading of_program (Refused refusal) = refuses refusal

-- of a rule file, where the shelf has it
abbrev pub wanted_by_file : (Program → Wanted) → Option (List ℕ) → Wanted
wanted_by_file of_program None = refuses (whole_file Missing)
wanted_by_file of_program (Some file) = wanted_by_reading of_program (reading file)

-- of the rule file of a name
unfoldable pub wanted_by_name : (Program → Wanted) → Files → List ℕ → Wanted
wanted_by_name of_program files name = wanted_by_file of_program (files name)

abbrev pub wanted_rules : Option (List ℕ) → List ℕ
wanted_rules None = []
wanted_rules (Some file) = rules_shown file

-- of a rule file with this text, in a mode, with a limit of firings and, where one is named, behind a checkpoint
abbrev pub wanted_from : Mode → ℕ → Option (List ℕ) → Files → List ℕ → Program → Wanted
wanted_from mode limit None files rules = wanted_of mode limit rules
wanted_from mode limit (Some image) files rules = wanted_behind mode limit (checkpoint_in rules (files image))

-- of the program of an accepted file, where its run begins there
abbrev pub wanted_at : Mode → ℕ → Beginning → Program → Wanted
wanted_at Run limit (First rules) = runs limit
wanted_at Run limit (Behind image) = resumes limit image
wanted_at Check limit beginning = accepts
wanted_at Lives limit beginning = tells_lives
wanted_at Proof limit beginning = proves
wanted_at Save limit (First rules) = saves limit rules
wanted_at Save limit (Behind image) = saves_on limit image

-- of the load of a number, with a limit of firings: its rule file is read as any other
unfoldable pub wanted_by_number : ℕ → ℕ → Wanted
wanted_by_number number limit = wanted_by_reading (sums_up number limit) (reading rules_text)

abbrev pub wanted_by : Option Asked → Files → Wanted
wanted_by None files = usage_line
wanted_by (Some (RuleFile name mode limit image)) files = wanted_by_name (wanted_from mode limit image files (wanted_rules (files name))) files name
wanted_by (Some (Load number limit)) files = wanted_by_number number limit

-- of these words
unfoldable pub wanted : List (String Global) → Files → Wanted
wanted words files = wanted_by (asked_by words) files

-- a refusal is wanted of which this holds
abbrev pub IfRefuses : Wanted → (Refusal → Type 0) → Type 0
IfRefuses (refuses refusal) P = P refusal
IfRefuses _ P = ⊥

-- ---- what is asked of the shelf and of the script

-- a rule file of the shelf is asked for
abbrev pub ReadsFile : Asked → Type 0
ReadsFile (RuleFile name mode limit image) = Unit {0}
ReadsFile (Load number limit) = ⊥

-- the script is to be run
abbrev pub RunsScript : Asked → Type 0
RunsScript (RuleFile name mode limit image) = RunsIn mode
RunsScript (Load number limit) = ⊥

-- an image is to be written
abbrev pub SavesRun : Asked → Type 0
SavesRun (RuleFile name mode limit image) = mode ≡ Save
SavesRun (Load number limit) = ⊥

-- a read failed: of the rule file, of the checkpoint, or of the script where it is run, as the counts before and after say
abbrev pub ReadFails : (List ℕ → ℕ) → (List ℕ → ℕ) → ℕ → ℕ → Asked → Type 0
ReadFails before after script script' (RuleFile name mode limit image) =
    Rose (before name) (after name) ⊎ ((it : List ℕ) × (image ≡ Some it) × Rose (before it) (after it))
    ⊎ (RunsIn mode × Rose script script')
ReadFails before after script script' (Load number limit) = ⊥

-- A checkpoint may be refused: one to be written, or one that is asked for where a script is run. That is missing, as the counts of misses
-- say, or there, where the shelf tells its files.
abbrev pub MayRefuse : Option Files → (List ℕ → ℕ) → (List ℕ → ℕ) → Asked → Type 0
MayRefuse told before after (RuleFile name mode limit image) =
    ((mode ≡ Save) × (image ≡ None)) ⊎ RefusesFor told before after mode image
MayRefuse told before after (Load number limit) = ⊥

-- the bytes of the file of this name are refused, where the shelf has it
abbrev pub IsRefusedFile : Option (List ℕ) → Type 0
IsRefusedFile None = ⊥
IsRefusedFile (Some file) = IsRefusedReading (reading file)

-- the same where the shelf tells its files; of another nothing is said
abbrev pub HasRefused : Option Files → List ℕ → Type 0
HasRefused None name = Unit {0}
HasRefused (Some files) name = IsRefusedFile (files name)

-- the rule file that is asked for is missing, as the shelf's counts of misses before and after say, or its bytes are refused, where they are told;
-- that of a load is accepted (law `replay::laws::the_rule_file_of_a_load_is_accepted`)
abbrev pub IsUnfit : Option Files → (List ℕ → ℕ) → (List ℕ → ℕ) → Asked → Type 0
IsUnfit told before after (RuleFile name mode limit image) = Rose (before name) (after name) ⊎ HasRefused told name
IsUnfit told before after (Load number limit) = ⊥
