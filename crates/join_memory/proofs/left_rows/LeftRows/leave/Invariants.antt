use Rattle.join_memory.proofs.Common.{◌≡◌, ◌&&◌, not, take, Row, has, has_row, RowsLeave}
use Rattle.join_memory.proofs.left_rows.LeftRows.leave.Given as goal

abbrev pub invariant-loop-row : goal.invariant-loop-row
invariant-loop-row g l = record {
  key : l.self.key ≡ l.initial.self.key;
  keeps : RowsLeave l.initial.self l.self (g.F.Facts.map l.facts) (take l.row-index l.rows);
  there : (row : Row) → has_row l.self (g.F.Facts.map l.facts) row ≡ (has_row l.initial.self (g.F.Facts.map l.facts) row && not (has (take l.row-index l.rows) row));
  went : (row : Row) → has l.went.items row ≡ (has (take l.row-index l.rows) row && has_row l.initial.self (g.F.Facts.map l.facts) row);
}
