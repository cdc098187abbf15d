-- What a line that is not too long reads as.
use Rattle.std.specs.Prelude.{ℕ, Bool, false, List, if◌then◌else◌}
use Rattle.rule_world.specs.Worlds.{World}
use Rattle.script_read.specs.{Asked.{Asked, asks, bad_json, bad_command, asked}, Blank.{is_line_blank}}
use Rattle.script_run.specs.declared.fault.LineCode.TheVariants as code
use Rattle.script_run.specs.{declared.line_read.LineRead.{LineRead, TheVariants.{Blank, Asks, BadJson, BadCommand}}, Run.{RunSetting, blank_step, command_step}}
use Rattle.script_run.specs.Run.{fault_step, fires_command}
use Rattle.line_run.specs.Run.{LineEffect}

abbrev pub read_asked : Asked → LineRead
read_asked (asks command) = Asks command
read_asked bad_json = BadJson
read_asked bad_command = BadCommand

abbrev pub line_read : List ℕ → LineRead
line_read line = if is_line_blank line then Blank else read_asked (asked line)

-- what is done with it
abbrev pub read_step : RunSetting → ℕ → ℕ → World → LineRead → LineEffect
read_step setting number left w Blank = blank_step left w
read_step setting number left w (Asks command) = command_step setting number left w command
read_step setting number left w BadJson = fault_step setting.form number left w code.BadJson
read_step setting number left w BadCommand = fault_step setting.form number left w code.BadCommand

-- whether it is a fire command
abbrev pub fires_read : LineRead → Bool
fires_read Blank = false
fires_read (Asks command) = fires_command command
fires_read BadJson = false
fires_read BadCommand = false
