-- The run of a script over a program by an engine of these meanings: what its lines print, and how it ends.
use Rattle.std.specs.Prelude.{ℕ, ◌+◌, ◌-◌, ◌++◌, ◌&&◌, Bool, true, false, List, [], length, nat_lt, Option, Some, None, is_some, if◌then◌else◌}
use Rattle.rule_model.specs.declared.{life.LifeTable.{LifeTable}, program.Program.{Program}}
use Rattle.rule_world.specs.Worlds.{World, empty_world}
use Rattle.script_read.specs.{declared.asked.Command.{Command, TheVariants.{Change, Fire, Held}}, Asked.{Asked, asks, bad_json, bad_command, asked}}
use Rattle.script_read.specs.Blank.{is_line_blank}
use Rattle.answer_lines.specs.declared.lines.OutLine.{OutLine}
use Rattle.script_run.specs.declared.{fault.LineCode.{LineCode, TheVariants.{LineLong, BadJson, BadCommand}}, form.Form.{Form, TheVariants.{Text}}}
use Rattle.script_run.specs.{Texts.{has_fault}, Written.{written_lines, written_fault, written_limit, written_met, written_done, written_held}, Firings.{Gives}}
use Rattle.script_run.specs.Firings.{Fires, Counts, Numbers, Firings, all_fired, limit_met, firings}
use Rattle.line_run.specs.Run.{LineEffect, goes_on, saves, stops, Outcome, RunState, state_in, run as run_lines}

-- What does not change in a run: the meanings of changes and firings, the numbers of kept events, the limit of all firings, the form of what
-- is printed, and the program. A live run has a limit for each fire command too, and closes each line of the script by a line of its own.
pub record RunSetting : Type 0 where
  pub gives : Gives
  pub fires : Fires
  pub numbers : Numbers
  pub limit : ℕ
  pub live : Option ℕ
  pub form : Form
  pub program : Program

-- the setting of a run by these meanings, with a limit of firings, of a program with a table of the lives of its types
abbrev pub setting_with : Option ℕ → Form → Gives → Fires → Counts → ℕ → Program → LifeTable → RunSetting
setting_with live form gives fires counts limit p table =
    record { gives = gives; fires = fires; numbers = counts p table; limit = limit; live = live; form = form; program = p }

-- that of a recorded script, which prints lines of text
abbrev pub setting_of : Gives → Fires → Counts → ℕ → Program → LifeTable → RunSetting
setting_of = setting_with None Text

-- ---- the effect of a line with this number, where so many firings are left, in a world

abbrev pub printed : RunSetting → ℕ → ℕ → List OutLine → World → LineEffect
printed setting number left lines w =
    goes_on (record { text = written_lines setting.form setting.program number lines; world = w; left = left; faulty = has_fault lines })

-- a fire command, by what its firings come to
abbrev pub fire_step : RunSetting → ℕ → Firings → LineEffect
fire_step setting number (all_fired lines w left) = printed setting number left lines w
fire_step setting number (limit_met lines) = stops (written_lines setting.form setting.program number lines ++ written_limit setting.form number setting.limit)

-- at most so many of the firings that a command wants
abbrev pub at_most : ℕ → Option ℕ → ℕ
at_most each None = each
at_most each (Some most) = if nat_lt each most then each else most

-- whether a command wants more firings than so many
abbrev pub wants_more : ℕ → Option ℕ → Bool
wants_more each None = true
wants_more each (Some most) = nat_lt each most

-- the line of the limit for each command, where it was met: a command wanted more, and a match is pending still
abbrev pub met_lines : Form → Option (List OutLine × World) → ℕ → ℕ → Option ℕ → List ℕ
met_lines form next each number most = if wants_more each most && is_some next then written_met form number each else []

-- a fire command of a live run, by what those firings come to
abbrev pub met_step : RunSetting → ℕ → ℕ → Option ℕ → LineEffect → LineEffect
met_step setting each number most (goes_on done) =
    goes_on (record done { text = done.text ++ met_lines setting.form (setting.fires setting.program done.world) each number most })
met_step setting each number most (saves done) = saves done
met_step setting each number most (stops text) = stops text

-- a fire command, of a live run as many of its firings as there may be for each
abbrev pub fire_by : RunSetting → Option ℕ → ℕ → ℕ → World → Option ℕ → LineEffect
fire_by setting None number left w most = fire_step setting number (firings setting.fires setting.program most left w)
fire_by setting (Some each) number left w most =
    met_step setting each number most (fire_step setting number (firings setting.fires setting.program (Some (at_most each most)) left w))

-- the numbers of the kept events change nothing and are no fault
abbrev pub held_step : RunSetting → ℕ → ℕ → World → LineEffect
held_step setting number left w =
    goes_on (record { text = written_held setting.form number setting.program.types (setting.numbers w); world = w; left = left; faulty = false })

abbrev pub command_step : RunSetting → ℕ → ℕ → World → Command → LineEffect
command_step setting number left w (Change change) =
    printed setting number left (setting.gives setting.program w change).0 (setting.gives setting.program w change).1
command_step setting number left w (Fire most) = fire_by setting setting.live number left w most
command_step setting number left w Held = held_step setting number left w

-- a faulty line changes nothing
abbrev pub fault_step : Form → ℕ → ℕ → World → LineCode → LineEffect
fault_step form number left w code = goes_on (record { text = written_fault form number code; world = w; left = left; faulty = true })

abbrev pub asked_step : RunSetting → ℕ → ℕ → World → Asked → LineEffect
asked_step setting number left w (asks command) = command_step setting number left w command
asked_step setting number left w bad_json = fault_step setting.form number left w BadJson
asked_step setting number left w bad_command = fault_step setting.form number left w BadCommand

-- a blank line does nothing
abbrev pub blank_step : ℕ → World → LineEffect
blank_step left w = goes_on (record { text = []; world = w; left = left; faulty = false })

-- a line of the script, but for what closes it
abbrev pub told_step : RunSetting → ℕ → ℕ → World → List ℕ → LineEffect
told_step setting number left w line =
    if nat_lt 65536 (length line) then fault_step setting.form number left w LineLong
    else (if is_line_blank line then blank_step left w else asked_step setting number left w (asked line))

-- ---- what closes a line of a live run after which it goes on

abbrev pub fires_command : Command → Bool
fires_command (Change change) = false
fires_command (Fire most) = true
fires_command Held = false

abbrev pub fires_asked : Asked → Bool
fires_asked (asks command) = fires_command command
fires_asked bad_json = false
fires_asked bad_command = false

-- whether a line is a fire command
abbrev pub is_fire_line : List ℕ → Bool
is_fire_line line = if nat_lt 65536 (length line) then false else (if is_line_blank line then false else fires_asked (asked line))

-- how many firings a fire command made, and whether a match is pending behind it
abbrev pub fired_of : RunSetting → Bool → ℕ → ℕ → World → Option (ℕ × Bool)
fired_of setting false before left w = None
fired_of setting true before left w = Some (before - left, is_some (setting.fires setting.program w))

abbrev pub end_text : RunSetting → Option ℕ → ℕ → Option (ℕ × Bool) → List ℕ
end_text setting None number fired = []
end_text setting (Some each) number fired = written_done setting.form number fired

-- a line with its end, which may be a fire command, and before which so many firings were left
abbrev pub closed : RunSetting → ℕ → ℕ → Bool → LineEffect → LineEffect
closed setting number before fires (goes_on done) =
    goes_on (record done { text = done.text ++ end_text setting setting.live number (fired_of setting fires before done.left done.world) })
closed setting number before fires (saves done) =
    saves (record done { text = done.text ++ end_text setting setting.live number (fired_of setting fires before done.left done.world) })
closed setting number before fires (stops text) = stops text

-- a line of the script
unfoldable pub line_step : RunSetting → ℕ → ℕ → World → List ℕ → LineEffect
line_step setting number left w line = closed setting number left (is_fire_line line) (told_step setting number left w line)

-- ---- the run

-- a line of the script in a state: lines are counted from 1
abbrev pub step_in : RunSetting → RunState → List ℕ → LineEffect
step_in setting s = line_step setting (s.progress.lines + 1) s.progress.left s.world

-- the lines from a state on
abbrev pub run : RunSetting → RunState → List (List ℕ) → Outcome
run setting = run_lines (step_in setting)

-- before the first line: all firings are left, and the world is empty
abbrev pub first_state : ℕ → RunState
first_state limit = state_in empty_world (record { lines = 0; left = limit; faulted = false })

-- all lines of a script, from the beginning
abbrev pub whole_run : RunSetting → List (List ℕ) → Outcome
whole_run setting = run setting (first_state setting.limit)
