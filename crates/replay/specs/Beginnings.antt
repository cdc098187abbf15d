-- Where a run begins, and in which worlds.
use Rattle.std.specs.Prelude.{◌≡◌, ◌⊎◌, ℕ, Bool, true, false, List, Option, Some, None}
use Rattle.fx_io.specs.Outside.{Rose, IsOnShelf}
use Rattle.command_words.specs.declared.asking.Mode.{Mode, TheVariants.{Run, Check, Lives, Proof, Save}}
use Rattle.checkpoint.specs.declared.image.RunPart.{RunPart}
use Rattle.image_laws.specs.{Fitting.{Fits}, Images.{IsImageOf}}
use Rattle.rule_model.specs.declared.{life.LifeTable.{LifeTable}, program.Program.{Program}}
use Rattle.rule_world.specs.{Lawful.{IsLawful}, Worlds.{World, empty_world}}
use Rattle.line_run.specs.Parts.{first_part}
use Rattle.replay.specs.declared.beginning.Beginning.{Beginning, TheVariants.{First, Behind}}

-- what an image says of the run before it has gone on
abbrev pub part_of : Beginning → RunPart
part_of (First rules) = first_part rules
part_of (Behind image) = image.run

-- a world of the beginning: the empty one, or each lawful one of which the image is that
abbrev pub BeginsIn : Program → LifeTable → Beginning → World → Type 0
BeginsIn p table (First rules) w = w ≡ empty_world
BeginsIn p table (Behind image) w = IsLawful p w × IsImageOf p table w image

-- an engine can begin there: an image fits
abbrev pub CanBegin : Program → LifeTable → Beginning → Type 0
CanBegin p table (First rules) = Unit {0}
CanBegin p table (Behind image) = Fits p table image

-- ---- which beginning is asked for

-- a mode runs the script
abbrev pub RunsIn : Mode → Type 0
RunsIn mode = (mode ≡ Run) ⊎ (mode ≡ Save)

-- whether a mode looks at the text of the rules: a run is saved, or goes on from the checkpoint that is named
abbrev pub shows_rules : Mode → Option (List ℕ) → Bool
shows_rules Save image = true
shows_rules Run (Some image) = true
shows_rules Run None = false
shows_rules Check image = false
shows_rules Lives image = false
shows_rules Proof image = false

-- with the name of an image, where one is given: a run begins behind the image of a file that is there, if the shelf tells its files
abbrev pub IsBeginningFor : Option (List ℕ → Option (List ℕ)) → Mode → Option (List ℕ) → Beginning → Type 0
IsBeginningFor told mode name (First rules) = RunsIn mode → name ≡ None
IsBeginningFor told mode name (Behind image) = RunsIn mode × (it : List ℕ) × (name ≡ Some it) × IsOnShelf told it

-- the checkpoint that is asked for is missing, as the counts of misses say, or is there
abbrev pub RefusesFor : Option (List ℕ → Option (List ℕ)) → (List ℕ → ℕ) → (List ℕ → ℕ) → Mode → Option (List ℕ) → Type 0
RefusesFor told before after mode name = RunsIn mode × (it : List ℕ) × (name ≡ Some it) × (Rose (before it) (after it) ⊎ IsOnShelf told it)
