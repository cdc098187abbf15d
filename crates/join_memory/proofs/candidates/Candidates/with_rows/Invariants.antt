use Rattle.join_memory.proofs.Common.{◌≡◌, take, Row, has, joins, joined, has_candidate}
use Rattle.join_memory.proofs.candidates.Candidates.with_rows.Given as goal

abbrev pub invariant-loop-row : goal.invariant-loop-row
invariant-loop-row g l = (r : Row) → has l.found.items r
    ≡ joined (joins l.self.pattern (g.F.Facts.map l.facts)) (has (take l.row-index l.rows)) (has_candidate l.self (g.F.Facts.map l.facts)) r
