-- The lines that a run prints, each ended by a line end.
use Rattle.std.specs.{Prelude.{ℕ, ◌++◌, ◌==◌, Bool, true, false, List, [], ◌∷◌, slice_get, Option, Some, None, if◌then◌else◌, codes}, Fmt.{decimal}}
use Rattle.std.specs.{Fmt.{signed_decimal}, List.{flat_map, list_any}}
use Rattle.fx_base.specs.declared.ids.{FactId.{FactId}, TypeId.{TypeId}}
use Rattle.rule_model.specs.declared.program.{Program.{Program}, TypeInfo.{TypeInfo}, Rule.{Rule}}
use Rattle.answer_lines.specs.declared.lines.{OutLine.{OutLine, TheVariants.{New, Fire, Fault, Inserted, Modified, Retracted, FiredFor}}, Cell.{Cell}}
use Rattle.rule_world.specs.CodeNames.{code_name}
use Rattle.script_run.specs.declared.fault.LineCode.{LineCode}
use Rattle.answer_lines.specs.declared.lines.Cell.TheVariants as cell
use Rattle.script_run.specs.declared.fault.LineCode.TheVariants as fault

abbrev pub type_name : Option TypeInfo → List ℕ
type_name None = []
type_name (Some ty) = ty.name

abbrev pub rule_name : Option Rule → List ℕ
rule_name None = []
rule_name (Some rule) = rule.name

-- a byte of a text in quotes: `\`, `"`, newline, tab and carriage return by their escapes
abbrev pub quoted_byte : ℕ → List ℕ
quoted_byte b =
    if b == 92 then 92 ∷ 92 ∷ []
    else (if b == 34 then 92 ∷ 34 ∷ []
    else (if b == 10 then 92 ∷ 110 ∷ []
    else (if b == 9 then 92 ∷ 116 ∷ []
    else (if b == 13 then 92 ∷ 114 ∷ [] else b ∷ []))))

-- what a condition bound
abbrev pub cell_text : Cell → List ℕ
cell_text (cell.Fact id) = codes " #" ++ decimal id.0
cell_text (cell.Value number) = codes " =" ++ signed_decimal number

-- the code of a faulty line
abbrev pub code_text : LineCode → List ℕ
code_text fault.LineLong = codes "LineLong"
code_text fault.BadJson = codes "BadJson"
code_text fault.BadCommand = codes "BadCommand"
code_text (fault.Refused code) = code_name code

-- a line of the script with this number had a fault
abbrev pub fault_text : ℕ → LineCode → List ℕ
fault_text number code = codes "fault " ++ decimal number ++ codes " " ++ code_text code ++ 10 ∷ []

-- a match was pending after so many firings, and the run ends
abbrev pub limit_text : ℕ → List ℕ
limit_text limit = codes "limit " ++ decimal limit ++ 10 ∷ []

-- the firings that a fire command of a live run may make were made in the line of this number, and a match is pending still
abbrev pub met_text : ℕ → ℕ → List ℕ
met_text number each = codes "limit " ++ decimal number ++ codes " " ++ decimal each ++ 10 ∷ []

-- a live run has done the line of this number
abbrev pub done_text : ℕ → List ℕ
done_text number = codes "done " ++ decimal number ++ 10 ∷ []

-- the image of a live run, for which the line of this number asks, is in its file
abbrev pub saved_text : ℕ → List ℕ
saved_text number = codes "saved " ++ decimal number ++ 10 ∷ []

-- the id of a fact, and its type
abbrev pub named_text : Program → FactId → TypeId → List ℕ
named_text p id ty = decimal id.0 ++ codes " " ++ type_name (slice_get p.types ty.0) ++ 10 ∷ []

-- a fact of a type is new
abbrev pub new_text : Program → FactId → TypeId → List ℕ
new_text p id ty = codes "new #" ++ named_text p id ty

-- a fact of a type is kept
abbrev pub fact_text : Program → FactId → TypeId → List ℕ
fact_text p id ty = codes "fact #" ++ named_text p id ty

-- a line that a line of the script with this number gives; a run that prints text has no lines in full, which are objects
unfoldable pub line_text : Program → ℕ → OutLine → List ℕ
line_text p number (New id ty) = new_text p id ty
line_text p number (Fire rule cells) =
    codes "fire \"" ++ flat_map quoted_byte (rule_name (slice_get p.rules rule.0)) ++ codes "\"" ++ flat_map cell_text cells ++ 10 ∷ []
line_text p number (Fault code) = fault_text number (fault.Refused code)
line_text p number (Inserted f) = new_text p f.id f.ty
line_text p number (Modified f) = []
line_text p number (Retracted id ty) = []
line_text p number (FiredFor rule clock facts values) = []

abbrev pub is_fault : OutLine → Bool
is_fault (New id ty) = false
is_fault (Fire rule cells) = false
is_fault (Fault code) = true
is_fault (Inserted f) = false
is_fault (Modified f) = false
is_fault (Retracted id ty) = false
is_fault (FiredFor rule clock facts values) = false

abbrev pub has_fault : List OutLine → Bool
has_fault lines = list_any is_fault lines

-- so many events of a type of this name are kept
abbrev pub held_line : List ℕ → ℕ → List ℕ
held_line name number = codes "held " ++ name ++ codes " " ++ decimal number ++ 10 ∷ []
