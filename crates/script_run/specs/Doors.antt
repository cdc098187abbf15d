-- The parts of what takes the lines of a live script, as other crates name them.
use Rattle.std.specs.Prelude.{ℕ, Option}
use Rattle.script_run.specs.declared.{form.Form.{Form}, live.LiveLines.{LiveLines}}

-- the engine that obeys them
abbrev pub engine_of : {E : Type 0} → LiveLines E → E
engine_of lines = lines.obeying.engine

-- the most firings of the run
abbrev pub run_limit : {E : Type 0} → LiveLines E → ℕ
run_limit lines = lines.obeying.limit

-- the most firings of each fire command, where it has a limit of its own
abbrev pub fire_limit : {E : Type 0} → LiveLines E → Option ℕ
fire_limit lines = lines.obeying.live

-- the form of what is answered
abbrev pub answer_form : {E : Type 0} → LiveLines E → Form
answer_form lines = lines.obeying.form
