-- What the words of a desk, its rule file and its image ask for.
use Rattle.std.{specs.{Prelude.{ℕ, ◌++◌, List, [], ◌∷◌, length, nat_lt, Option, Some, None, codes, if◌then◌else◌}, Str.{bytes_eq}}, proofs.Common.{String}}
use Rattle.std.proofs.Common.{Global}
use Rattle.command_words.specs.{declared.desk.{DeskAsked.{DeskAsked}, DeskWords.{DeskWords, TheVariants.{Run, Help, Version}}}, Desk.{desk_by}}
use Rattle.drl_names.specs.declared.rule_names.RuleNames.{RuleNames}
use Rattle.checkpoint.specs.declared.image.Image.{Image}
use Rattle.desk.specs.declared.wanted.{Begun.{Begun}, Changing.{Changing}, Setting.{Setting}}
use Rattle.desk_image.specs.Reading.{desk_decoded}
use Rattle.rule_model.specs.declared.{life.LifeTable.{LifeTable}, program.Program.{Program}}
use Rattle.script_run.specs.Forms.{form_for}
use Rattle.replay.specs.declared.{beginning.Beginning.{Beginning, TheVariants.{First, Behind}}, refusal.{Refusal.{Refusal}, RefusalCode.TheVariants.{Missing}}}
use Rattle.replay.specs.declared.{refused_checkpoint.CheckpointCode.{CheckpointCode, TheVariants.{TooLong, BadImage, Unfit}}, rule_file.Reading.{Reading}}
use Rattle.replay.specs.{declared.rule_file.Reading.TheVariants.{Accepted, Refused}, Checkpoints.{image_limit, rules_shown}, Names.{names_read}}
use Rattle.replay.specs.{Refusals.{reading, whole_file}, Wanted.{Files}}

-- ---- what is said where no run is wanted

abbrev pub line : List ℕ → List ℕ
line text = text ++ 10 ∷ []

abbrev pub help : List ℕ
help = line (codes "Runs rules over the lines of a script from standard input, without an end.")
    ++ line (codes "usage: desk [--limit N] [--image NAME] [--keep RULES2] [--text] RULES")
    ++ line (codes "  RULES         the rule file")
    ++ line (codes "  --limit N     the most firings of one fire line, from 1 to 1000000; 100000 if it is not given")
    ++ line (codes "  --image NAME  the file from which the run goes on, if it is there, and to which it is saved")
    ++ line (codes "  --keep RULES2 keeps events for as long as these rules need them, which are to come later")
    ++ line (codes "  --text        answers in lines of text, and not in JSON")
    ++ line (codes "  --help        this text")
    ++ line (codes "  --version     the version")

abbrev pub version : List ℕ
version = line (codes "desk 0.1.0")

-- ---- where a live run begins

-- with what the file of an image is
pub data Start : Type 0 where
  -- in the empty world, or behind an image of the same rules, with the lives that it says
  begins : Beginning → Option LifeTable → Start
  -- behind an image of rules with another text, with the lives that it says
  changes : Option LifeTable → Image → Start
  -- the image is refused
  cannot_begin : CheckpointCode → Start

abbrev pub start_behind : List ℕ → Option LifeTable → Image → Start
start_behind rules lives image = if bytes_eq image.run.rules rules then begins (Behind image) lives else changes lives image

abbrev pub start_by : List ℕ → Option (Option LifeTable × Image) → Start
start_by rules None = cannot_begin BadImage
start_by rules (Some found) = start_behind rules found.0 found.1

-- with these bytes of the file, of rules with this text
unfoldable pub start_of : List ℕ → List ℕ → Start
start_of rules bytes = if nat_lt image_limit (length bytes) then cannot_begin TooLong else start_by rules (desk_decoded bytes)

-- in the empty world, where the file is not there yet
abbrev pub start_in : List ℕ → Option (List ℕ) → Start
start_in rules None = begins (First rules) None
start_in rules (Some bytes) = start_of rules bytes

-- of rules with this text, with the name of an image where one is given
abbrev pub start : List ℕ → Option (List ℕ) → Files → Start
start rules None files = begins (First rules) None
start rules (Some name) files = start_in rules (files name)

-- ---- the rules that are to come

pub data ToCome : Type 0 where
  none_come : ToCome
  come : Program → ToCome
  -- their file is missing or not accepted
  cannot_come : Refusal → ToCome

abbrev pub coming : Reading → ToCome
coming (Accepted program) = come program
coming (Refused refusal) = cannot_come refusal

abbrev pub coming_in : Option (List ℕ) → ToCome
coming_in None = cannot_come (whole_file Missing)
coming_in (Some file) = coming (reading file)

-- with the name of their file, where one is given
abbrev pub to_come : Option (List ℕ) → Files → ToCome
to_come None files = none_come
to_come (Some name) files = coming_in (files name)

-- ---- what is wanted

pub data Wanted : Type 0 where
  -- the usage line: the words are refused
  usage_line : Wanted
  -- a text, and no run
  says : List ℕ → Wanted
  -- the refusal of a rule file, which is missing or not accepted
  refuses : Refusal → Wanted
  -- the refusal of an image, which is there and none, or one of rules that are not accepted
  refuses_image : CheckpointCode → Wanted
  -- a live run
  runs : Begun → Wanted
  -- a live run behind an image of other rules
  runs_over : Changing → Wanted

abbrev pub over_old : Setting → List ℕ → Option LifeTable → Image → Reading → Wanted
over_old setting rules lives image (Accepted old) = runs_over (record { setting = setting; rules = rules; old = old; lives = lives; image = image })
over_old setting rules lives image (Refused refusal) = refuses_image Unfit

abbrev pub wanted_from : Setting → List ℕ → Start → Wanted
wanted_from setting rules (begins beginning lives) = runs (record { setting = setting; beginning = beginning; lives = lives })
wanted_from setting rules (changes lives image) = over_old setting rules lives image (reading image.run.rules)
wanted_from setting rules (cannot_begin code) = refuses_image code

abbrev pub setting_of : DeskAsked → List RuleNames → Program → Option Program → Setting
setting_of asked names p later = record { form = form_for asked.text names; each = asked.each; image = asked.image; program = p; later = later }

abbrev pub wanted_with : DeskAsked → Files → List RuleNames → List ℕ → Program → ToCome → Wanted
wanted_with asked files names rules p none_come = wanted_from (setting_of asked names p None) rules (start rules asked.image files)
wanted_with asked files names rules p (come later) = wanted_from (setting_of asked names p (Some later)) rules (start rules asked.image files)
wanted_with asked files names rules p (cannot_come refusal) = refuses refusal

abbrev pub wanted_by_reading : DeskAsked → Files → List RuleNames → List ℕ → Reading → Wanted
wanted_by_reading asked files names rules (Accepted program) = wanted_with asked files names rules program (to_come asked.keep files)
wanted_by_reading asked files names rules (Refused refusal) = refuses refusal

-- of a rule file, where the shelf has it
abbrev pub wanted_by_file : DeskAsked → Files → Option (List ℕ) → Wanted
wanted_by_file asked files None = refuses (whole_file Missing)
wanted_by_file asked files (Some file) = wanted_by_reading asked files (names_read file) (rules_shown file) (reading file)

abbrev pub wanted_by_words : DeskWords → Files → Wanted
wanted_by_words (Run asked) files = wanted_by_file asked files (files asked.rules)
wanted_by_words Help files = says help
wanted_by_words Version files = says version

abbrev pub wanted_by : Option DeskWords → Files → Wanted
wanted_by None files = usage_line
wanted_by (Some words) files = wanted_by_words words files

-- of these words
unfoldable pub wanted : List (String Global) → Files → Wanted
wanted words files = wanted_by (desk_by words) files
