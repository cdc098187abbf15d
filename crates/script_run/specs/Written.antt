-- What a run prints, by the form of its answers: lines of text, or objects in JSON, one to a line.
use Rattle.std.specs.{Prelude.{ℕ, ◌++◌, Bool, List, [], ◌∷◌, Option, Some, None, if◌then◌else◌}, List.{flat_map}}
use Rattle.fx_base.specs.declared.fact.Fact.{Fact}
use Rattle.rule_model.specs.declared.program.{Program.{Program}, TypeInfo.{TypeInfo}}
use Rattle.answer_lines.specs.declared.lines.OutLine.{OutLine}
use Rattle.answer_json.specs.Answers.{line_data, fault_data, limit_data, held_data, saved_data, kept_data, done_data, fired_data, counts_data}
use Rattle.answer_json.specs.{Objects.{json_line}, declared.counted.Counted.{Counted}}
use Rattle.script_run.specs.{declared.{fault.LineCode.{LineCode}, form.Form.{Form, TheVariants.{Text, Objects}}}, Texts.{code_text, done_text, fact_text}}
use Rattle.script_run.specs.Texts.{fault_text, held_line, limit_text, line_text, met_text, saved_text}

-- a line that a line of the script with this number gives
abbrev pub written_line : Form → Program → ℕ → OutLine → List ℕ
written_line Text = line_text
written_line (Objects names) = λ p number line. json_line (line_data p names number line)

abbrev pub written_lines : Form → Program → ℕ → List OutLine → List ℕ
written_lines form p number lines = flat_map (written_line form p number) lines

-- a line of the script with this number had a fault
abbrev pub written_fault : Form → ℕ → LineCode → List ℕ
written_fault Text number code = fault_text number code
written_fault (Objects names) number code = json_line (fault_data number (code_text code))

-- a match was pending after all firings that the run may make, in the line of this number
abbrev pub written_limit : Form → ℕ → ℕ → List ℕ
written_limit Text number limit = limit_text limit
written_limit (Objects names) number limit = json_line (limit_data number limit)

-- the firings that a fire command of a live run may make were made in the line of this number, and a match is pending still
abbrev pub written_met : Form → ℕ → ℕ → List ℕ
written_met Text number each = met_text number each
written_met (Objects names) number each = json_line (limit_data number each)

-- so many events of a type of this name are kept
abbrev pub held_by : Form → ℕ → List ℕ → ℕ → List ℕ
held_by Text line name number = held_line name number
held_by (Objects names) line name number = json_line (held_data line name number)

-- so many of each event type, in their order: each takes the next number
abbrev pub written_held : Form → ℕ → List TypeInfo → List ℕ → List ℕ
written_held form line [] numbers = []
written_held form line (ty ∷ types) [] = []
written_held form line (ty ∷ types) (number ∷ numbers) =
    if ty.event then held_by form line ty.name number ++ written_held form line types numbers else written_held form line types (number ∷ numbers)

-- the image for which the line of this number asks is in its file
abbrev pub written_saved : Form → ℕ → List ℕ
written_saved Text number = saved_text number
written_saved (Objects names) number = json_line (saved_data number)

-- a fact is kept
abbrev pub kept_by : Form → Program → ℕ → Fact → List ℕ
kept_by Text p number f = fact_text p f.id f.ty
kept_by (Objects names) p number f = json_line (kept_data p number f)

-- the kept facts for which the line of this number asks
abbrev pub written_kept : Form → Program → ℕ → List Fact → List ℕ
written_kept form p number facts = flat_map (kept_by form p number) facts

-- the counts for which the line of this number asks, which text does not tell
abbrev pub written_counts : Form → Program → ℕ → Counted → List ℕ
written_counts Text p number counted = []
written_counts (Objects names) p number counted = json_line (counts_data p number counted)

-- a live run has done the line of this number: a fire command with so many firings, and a match that is pending or not
abbrev pub fired_object : ℕ → Option (ℕ × Bool) → List ℕ
fired_object number None = json_line (done_data number)
fired_object number (Some fired) = json_line (fired_data number fired.0 fired.1)

abbrev pub written_done : Form → ℕ → Option (ℕ × Bool) → List ℕ
written_done Text number fired = done_text number
written_done (Objects names) number fired = fired_object number fired
