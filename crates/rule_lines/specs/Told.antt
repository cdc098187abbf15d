-- The lines of what is told of rules, each ended by a line end.
use Rattle.std.specs.{Prelude.{◌++◌, Bool, true, false, List, [], ◌∷◌, codes, ℕ}, List.{flat_map}}
use Rattle.answer_json.specs.Objects.{json_line, object_of}
use Rattle.rule_change.specs.{Told.{ToldRule}, declared.code.RuleStatus.{RuleStatus, TheVariants.{Stays, New, Gone}}}
use Rattle.script_run.specs.Texts.{quoted_byte}
use Rattle.serde_json.specs.Data.{Data, string}

abbrev pub status_word : RuleStatus → List ℕ
status_word Stays = codes "stays"
status_word New = codes "new"
status_word Gone = codes "gone"

-- rule "NAME" STATUS
abbrev pub told_text : ToldRule → List ℕ
told_text told = codes "rule \"" ++ flat_map quoted_byte told.0 ++ codes "\" " ++ status_word told.1 ++ 10 ∷ []

-- {"change":STATUS,"rule":NAME}
abbrev pub told_data : ToldRule → Data
told_data told = object_of ((codes "change", string (status_word told.1)) ∷ (codes "rule", string told.0) ∷ [])

-- in text, or as an object
abbrev pub told_line : Bool → ToldRule → List ℕ
told_line true told = told_text told
told_line false told = json_line (told_data told)

abbrev pub told_lines : Bool → List ToldRule → List ℕ
told_lines text told = flat_map (told_line text) told
