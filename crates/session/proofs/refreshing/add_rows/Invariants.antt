use Rattle.{session.proofs.Common.{◌≡◌, ◌==◌, ◌||◌, ℕ, take, list_any, is_tag_among}, row_delta.specs.declared.row.Named.{Named as NamedData}}
use Rattle.row_delta.specs.declared.row.Row.{Row as RowData}
use Rattle.session.proofs.refreshing.add_rows.Given as goal

abbrev pub invariant-loop-row : goal.invariant-loop-row
invariant-loop-row l =
    (tag : ℕ) → is_tag_among l.tags.items tag ≡ (is_tag_among l.fn.tags.items tag || list_any (λ (row : RowData). list_any (λ (n : NamedData). tag == n.tag.0) row.facts) (take l.row-index l.rows))
