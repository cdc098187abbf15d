use Rattle.join_memory.proofs.Common.{◌≡◌, ◌||◌, is_some, option_map, eq_by_cmp, found, Row, has, row_cmp, name_cmp, name_joins, joined, has_name}
use Rattle.join_memory.proofs.partners.with_names.Given as goal

-- with what the candidates to come make, all is found
abbrev pub invariant-loop-who : goal.invariant-loop-who
invariant-loop-who g l = (r : Row) → (has l.rows.items r || joined (name_joins l.pattern (g.F.Facts.map l.facts) (option_map (λ v. v.now) l.under)) (eq_by_cmp row_cmp l.row) (has_name l.who-iterator) r)
    ≡ joined (name_joins l.pattern (g.F.Facts.map l.facts) (option_map (λ v. v.now) l.under)) (eq_by_cmp row_cmp l.row) (λ q. is_some (found name_cmp l.bucket q)) r
