use Rattle.{session.proofs.Common.{◌≡◌, ◌==◌, ◌||◌, ℕ, take, list_any, is_tag_among}, row_delta.specs.declared.row.Named.{Named as NamedData}}
use Rattle.session.proofs.refreshing.add_names.Given as goal

abbrev pub invariant-loop-name : goal.invariant-loop-name
invariant-loop-name l = (tag : ℕ) → is_tag_among l.tags.items tag ≡ (is_tag_among l.fn.tags.items tag || list_any (λ (n : NamedData). tag == n.tag.0) (take l.name-index l.names))
