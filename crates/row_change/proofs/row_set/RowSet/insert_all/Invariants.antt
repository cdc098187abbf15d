use Rattle.row_change.proofs.Common.{◌≡◌, ◌||◌, has, Row}
use Rattle.row_change.proofs.row_set.RowSet.insert_all.Given as goal

-- the rows in the set and those to come are what the set is to have
abbrev pub invariant-loop-row : goal.invariant-loop-row
invariant-loop-row l = (row : Row) → (has l.self.keys row || has l.row-iterator.rest.items row) ≡ (has l.initial.self.keys row || has l.fn.rows.items row)
