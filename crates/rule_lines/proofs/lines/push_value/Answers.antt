use Rattle.{std.{proofs.Common.{◌++◌, ◌≡◌, ◌∙◌, ◌∷◌, List, [], ap, append_assoc, ℕ}, specs.Prelude.{string_bytes}}, answer_json.specs.Objects.{json_line}}
use Rattle.serde_json.specs.{View.{view}, Written.{compact_text}}
use Rattle.rule_lines.proofs.lines.push_value.Goals as goal

pub returns : goal.returns
unfolding json_line
returns c =
    let written : List ℕ = compact_text (view c.args.value.now) in
    let text : string_bytes c.in_ok-line.line ≡ written = c.in_ok-line.ensures.text c.requires in
    c.in_ok-push.ensures.items
    ∙ ap (λ (z : List ℕ). z ++ 10 ∷ [])
    (c.in_ok-extend_from_slice.ensures.items ∙ ap (λ (z : List ℕ). c.args.out.now.items ++ z) (c.as_bytes.ensures.value ∙ text))
    ∙ append_assoc c.args.out.now.items written (10 ∷ [])
