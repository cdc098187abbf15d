-- The form of what a run answers.
use Rattle.std.specs.Prelude.{Bool, true, false, List}
use Rattle.drl_names.specs.declared.rule_names.RuleNames.{RuleNames}
use Rattle.script_run.specs.declared.form.Form.{Form, TheVariants.{Text, Objects}}

-- lines of text, or objects with the names of each rule's variables
abbrev pub form_for : Bool → List RuleNames → Form
form_for true names = Text
form_for false names = Objects names
