-- The lines of steps, by what a session has.
use Rattle.session_model.proofs.Common.{◌≡◌, ◌∙◌, ℕ, List, Option, ap, sym, FactId, Tag, Value, Fact, Modify, Memory, Setting, Contents, Runs, Standing}
use Rattle.session_model.{proofs.{Common.{step_lines, IsOfPlain, IsNewestTag, World, found}, Looking.{modified_found}}, specs.Gives.{modified_lines, revision}}
use Rattle.session_model.proofs.Removing.{at_tag, newest_is}
use Rattle.std.specs.FinMap as map

-- a modification tells what it makes of the fact with the tag
pub modify_line : (s : Setting) (m : Memory) (k : Contents) (w : World) → Runs s → Standing s m k w → (id : FactId) (tag : Tag) → IsNewestTag k.facts id.0 tag → (sets : List (ℕ × Value))
    → IsOfPlain s.program w (Modify id sets) → step_lines s.detail s.program w (Modify id sets) ≡ modified_lines s.detail (revision k.next_tag sets (map.get k.facts tag.0))
modify_line s m k w runs st id tag is sets plain =
    ap (λ (n : ℕ). modified_lines s.detail (revision n sets (found s.program w id.0))) (sym st.seen.whole.mirrors.next_tag)
    ∙ ap (λ (o : Option Fact). modified_lines s.detail (revision k.next_tag sets o))
    (sym (modified_found s m k w runs st id sets plain) ∙ newest_is s m k w st id tag is ∙ sym (at_tag s m k w st id tag is))
