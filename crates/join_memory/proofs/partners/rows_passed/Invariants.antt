use Rattle.join_memory.proofs.Common.{◌≡◌, ◌++◌, filter, option_map, keys_of, entries, Row, row_joins}
use Rattle.join_memory.proofs.partners.rows_passed.Given as goal

abbrev pub invariant-loop-row : goal.invariant-loop-row
invariant-loop-row g l = l.rows.items ++ filter (λ (r : Row). row_joins l.pattern (g.F.Facts.map l.facts) (option_map (λ v. v.now) l.under) r l.who) l.row-iterator ≡ filter (λ (r : Row). row_joins l.pattern (g.F.Facts.map l.facts) (option_map (λ v. v.now) l.under) r l.who) (keys_of (entries l.bucket))
