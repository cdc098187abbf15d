use Rattle.page_map.proofs.Common.{◌≡◌, ◌∙◌, sym, ap, subst, List, ℕ, among, IfOk}
use Rattle.std.specs.FinMap as map
use Rattle.page_map.proofs.{Kept.{entries-numbers}, Rows.{whole}}
use Rattle.page_map.proofs.pages.PageMap.entries.Goals as goal

pub returns : goal.returns
returns c =
    let run = c.self.inside.run in
    let tree = c.self.inside.tree.entries in
    subst (λ (es : List (ℕ × ℕ)). IfOk c.entries_in.result (λ entries. entries.items ≡ es))
    (sym (entries-numbers (among run.first run.directories.items tree) (whole run.first run.directories.items tree c.self.invariant)) ∙ ap map.entries c.self.view_is) c.entries_in.ensures
