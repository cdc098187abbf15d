use Rattle.script_read.proofs.Common.{◌≡◌, Some, option_and_then, sym, ap, ◌∙◌, value_view, members_view, of_json, read, max_depth, reading, object, if_last}
use Rattle.{script_read.proofs.{Common.{tree_command}, Forms.{same_command, asked_by}, Readings.{reading_of_text}}, json.specs.Json.{value as value_in}}
use Rattle.json.{specs.Lex.{tokens}, proofs.Trees.{view-Object}}
use Rattle.script_read.proofs.flat.flat_command.Goals as goal

pub returns-in-Object : goal.returns-in-Object
returns-in-Object c =
    let text = c.in-Ok.ensures.cases in
    let said : option_and_then (λ p. if_last p.0 p.1) (value_in max_depth (tokens c.in-Ok.text.now)) ≡ Some (value_view c.in-Some.tree) = rw c.in-Some.is at c.in_ok-tree.ensures in
    let whole : reading c.args.line.now ≡ of_json (value_view c.in-Some.tree) =
    reading_of_text c.args.line.now text.1 ∙ sym (ap read text.0) ∙ ap (option_and_then of_json) said in
    let tree : value_view c.in-Some.tree ≡ object (members_view c.as_slice.result.now) =
    ap value_view c.in-Object.is ∙ view-Object c.in-Object.members ∙ ap (λ ms. object (members_view ms)) (sym c.as_slice.ensures.value) in
    asked_by c.args.line.now (value_view c.in-Some.tree) whole c.form_in.result (same_command c.form_in.result (ap tree_command (sym tree)) c.form_in.ensures)
