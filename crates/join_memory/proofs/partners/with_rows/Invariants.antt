use Rattle.join_memory.proofs.Common.{◌≡◌, ◌||◌, is_some, option_map, eq_by_cmp, found, Row, has, row_cmp, name_cmp, row_joins, joined}
use Rattle.join_memory.proofs.partners.with_rows.Given as goal

-- with what the rows to come make, all is found
abbrev pub invariant-loop-row : goal.invariant-loop-row
invariant-loop-row g l = (r : Row) → (has l.rows.items r || joined (row_joins l.pattern (g.F.Facts.map l.facts) (option_map (λ v. v.now) l.under)) (has l.row-iterator) (eq_by_cmp name_cmp l.who) r)
    ≡ joined (row_joins l.pattern (g.F.Facts.map l.facts) (option_map (λ v. v.now) l.under)) (λ q. is_some (found row_cmp l.bucket q)) (eq_by_cmp name_cmp l.who) r
