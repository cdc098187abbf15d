use Rattle.{std.{proofs.Common.{◌≡◌, ◌++◌, ◌∷◌, List, ℕ, [], ap, sym, ◌∙◌, append_assoc}, specs.Prelude.{string_bytes}}, serde_json.specs.Read.{read}}
use Rattle.{serde_json.specs.{View.{view}, Written.{compact_text}}, answer_json.specs.Objects.{json_line, ReadsBack}}
use Rattle.answer_json.proofs.writing.push_value.Goals as goal

pub returns-clause-text : goal.returns-clause-text
unfolding json_line
returns-clause-text c =
    let written : List ℕ = compact_text (view c.args.value.now) in
    let text : string_bytes c.in_ok-line.line ≡ written = c.in_ok-line.ensures.text c.requires.exact in
    c.in_ok-push.ensures.items
    ∙ ap (λ (z : List ℕ). z ++ 10 ∷ []) (c.in_ok-extend_from_slice.ensures.items ∙ ap (λ (z : List ℕ). c.args.text.now.items ++ z) (c.as_bytes.ensures.value ∙ text))
    ∙ append_assoc c.args.text.now.items written (10 ∷ [])

pub returns-clause-reads_back : goal.returns-clause-reads_back
unfolding ReadsBack
returns-clause-reads_back c = ap read (sym (c.in_ok-line.ensures.text c.requires.exact)) ∙ c.in_ok-line.ensures.reads_back c.requires.shallow
