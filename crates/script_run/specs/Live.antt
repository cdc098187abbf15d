-- A live run: a limit for each fire command, and none that it could meet in all; besides the commands of every script, lines that ask to save and
-- what is kept.
use Rattle.std.specs.{Prelude.{ℕ, ◌+◌, ◌-◌, ◌^◌, ◌==◌, Bool, false, List, length, nat_lt, Option, Some, None, if◌then◌else◌}, List.{filter}}
use Rattle.fx_base.specs.declared.fact.Fact.{Fact}
use Rattle.rule_model.specs.declared.{life.LifeTable.{LifeTable}, program.{Program.{Program}, TypeInfo.{TypeInfo}}}
use Rattle.rule_world.specs.{declared.code.Code.TheVariants.{UnknownType}, Worlds.{World}}
use Rattle.engine.specs.{KeptFacts.{kept_by_tag}, declared.world_counts.WorldCounts.{WorldCounts}, WorldCounts.{world_counts}}
use Rattle.change_resolve.specs.Changes.{type_named}
use Rattle.script_read.specs.{Asked.{Asked, asks, bad_json, bad_command, asked}, Blank.{is_line_blank}}
use Rattle.desk_read.specs.{declared.asked.Question.{Question, TheVariants.{Save, Facts, Counts}}, Questions.{question_of}}
use Rattle.answer_json.specs.declared.counted.Counted.{Counted}
use Rattle.line_run.specs.Run.{LineEffect, Outcome, RunState, goes_on, saves, run as run_lines, saved_states}
use Rattle.script_run.specs.{declared.{fault.LineCode.TheVariants.{BadCommand, Refused}, form.Form.{Form}}, Firings.{Gives, Fires, Counts as CountsOf}}
use Rattle.script_run.specs.{Run.{RunSetting, setting_with, closed, fault_step, is_fire_line, told_step}, Written.{written_saved, written_kept, written_counts}}

-- of all firings of a run, and of all bytes of a script
abbrev pub most_firings : ℕ
most_firings = 2 ^ 55

-- the setting of the commands of a live run by these meanings, with answers of this form, and a limit of firings for each fire command
abbrev pub live_setting : Form → Gives → Fires → CountsOf → ℕ → Program → LifeTable → RunSetting
live_setting form gives fires counts each p table = setting_with (Some each) form gives fires counts most_firings p table

-- What does not change in a live run: the setting of its commands, the table of the lives of its program's types, and whether a file is named for
-- its image.
pub record LiveSetting : Type 0 where
  pub run : RunSetting
  pub table : LifeTable
  pub has_image : Bool

abbrev pub live_by : Option ℕ → Form → Gives → Fires → CountsOf → ℕ → Program → LifeTable → Bool → LiveSetting
live_by each form gives fires counts limit p table has_image =
    record { run = setting_with each form gives fires counts limit p table; table = table; has_image = has_image }

-- ---- what is asked

abbrev pub question_where : Asked → Option Question → Option Question
question_where (asks command) question = None
question_where bad_json question = None
question_where bad_command question = question

-- what a line asks that is no command
abbrev pub question_in : List ℕ → Option Question
question_in line =
    if nat_lt 65536 (length line) then None else (if is_line_blank line then None else question_where (asked line) (question_of line))

-- ---- what is answered in the line of this number, where so many firings are left, in a world

-- a line that changes nothing, and is no fault
abbrev pub telling : List ℕ → ℕ → World → LineEffect
telling text left w = goes_on (record { text = text; world = w; left = left; faulty = false })

-- the facts of the type in this place
abbrev pub of_type : ℕ → List Fact → List Fact
of_type ty facts = filter (λ (f : Fact). f.ty.0 == ty) facts

abbrev pub told_facts : LiveSetting → ℕ → ℕ → World → List Fact → LineEffect
told_facts live number left w facts = telling (written_kept live.run.form live.run.program number facts) left w

-- the kept facts of a type, where there is one of the name
abbrev pub facts_of_type : LiveSetting → ℕ → ℕ → World → Option (ℕ × TypeInfo) → LineEffect
facts_of_type live number left w None = fault_step live.run.form number left w (Refused UnknownType)
facts_of_type live number left w (Some found) = told_facts live number left w (of_type found.0 (kept_by_tag live.run.program live.table w))

-- the counts of a world, with the firings of the run so far
abbrev pub counted : ℕ → WorldCounts → Counted
counted firings counts = record {
  clock = counts.clock;
  facts = counts.facts;
  firings = firings;
  floors = counts.floors;
  pending = counts.pending;
}

abbrev pub counts_step : LiveSetting → ℕ → ℕ → World → LineEffect
counts_step live number left w =
    telling (written_counts live.run.form live.run.program number (counted (live.run.limit - left) (world_counts live.run.program live.table w))) left w

-- the image of the state behind the line is put, and then told as saved; where no file is named for it, the line is no command
abbrev pub save_step : LiveSetting → ℕ → ℕ → World → LineEffect
save_step live number left w =
    if live.has_image then saves (record { text = written_saved live.run.form number; world = w; left = left; faulty = false })
    else fault_step live.run.form number left w BadCommand

abbrev pub question_step : LiveSetting → ℕ → ℕ → World → Question → LineEffect
question_step live number left w Save = save_step live number left w
question_step live number left w (Facts None) = told_facts live number left w (kept_by_tag live.run.program live.table w)
question_step live number left w (Facts (Some name)) = facts_of_type live number left w (type_named name live.run.program.types 0)
question_step live number left w Counts = counts_step live number left w

-- ---- a line of the script

abbrev pub told_or_asked : LiveSetting → ℕ → ℕ → World → List ℕ → Option Question → LineEffect
told_or_asked live number left w line None = told_step live.run number left w line
told_or_asked live number left w line (Some question) = question_step live number left w question

unfoldable pub live_line : LiveSetting → ℕ → ℕ → World → List ℕ → LineEffect
live_line live number left w line = closed live.run number left (is_fire_line line) (told_or_asked live number left w line (question_in line))

-- a line of the script in a state: lines are counted from 1
abbrev pub live_step : LiveSetting → RunState → List ℕ → LineEffect
live_step live s = live_line live (s.progress.lines + 1) s.progress.left s.world

-- the lines from a state on
abbrev pub run_live : LiveSetting → RunState → List (List ℕ) → Outcome
run_live live = run_lines (live_step live)

-- the states whose images the lines put
abbrev pub saved_live : LiveSetting → RunState → List (List ℕ) → List RunState
saved_live live = saved_states (live_step live)
