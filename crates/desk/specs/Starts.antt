-- Where a live run begins, as the code tells it.
use Rattle.std.specs.Prelude.{◌≡◌, ℕ, List}
use Rattle.desk.specs.{declared.{start.Start.{Start as StartData, TheVariants.{Begins, Changes}}, wanted.Setting.{Setting}}, Wanted.{Start, Wanted, begins}}
use Rattle.desk.specs.Wanted.{changes, cannot_begin, over_old, runs}
use Rattle.replay.specs.{Refusals.{reading}, declared.checkpoint_file.CheckpointFault.{CheckpointFault, TheVariants.{Refused, ReadFault, NoMemory}}}

abbrev pub start_as : StartData → Start
start_as (Begins beginning lives) = begins beginning lives
start_as (Changes rules lives image) = changes lives image

-- the text of the rules goes on with it
abbrev pub HasText : List ℕ → StartData → Type 0
HasText rules (Begins beginning lives) = Unit {0}
HasText rules (Changes text lives image) = text ≡ rules

-- what is wanted with it
abbrev pub wanted_as : Setting → StartData → Wanted
wanted_as setting (Begins beginning lives) = runs (record { setting = setting; beginning = beginning; lives = lives })
wanted_as setting (Changes rules lives image) = over_old setting rules lives image (reading image.run.rules)

-- what a fault says: the file is refused with this code; a failed read, and want of memory, say nothing
abbrev pub TellsStartFault : Start → CheckpointFault → Type 0
TellsStartFault found (Refused code) = found ≡ cannot_begin code
TellsStartFault found ReadFault = Unit {0}
TellsStartFault found NoMemory = Unit {0}
