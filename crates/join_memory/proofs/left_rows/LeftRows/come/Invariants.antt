use Rattle.join_memory.proofs.Common.{◌≡◌, ◌&&◌, ◌||◌, not, take, Row, has, has_row, RowsCome}
use Rattle.join_memory.proofs.left_rows.LeftRows.come.Given as goal

abbrev pub invariant-loop-row : goal.invariant-loop-row
invariant-loop-row g l = record {
  key : l.self.key ≡ l.initial.self.key;
  keeps : RowsCome l.initial.self l.self (g.F.Facts.map l.facts) (take l.row-index l.rows);
  there : (row : Row) → has_row l.self (g.F.Facts.map l.facts) row ≡ (has_row l.initial.self (g.F.Facts.map l.facts) row || has (take l.row-index l.rows) row);
  came : (row : Row) → has l.came.items row ≡ (has (take l.row-index l.rows) row && not (has_row l.initial.self (g.F.Facts.map l.facts) row));
}
