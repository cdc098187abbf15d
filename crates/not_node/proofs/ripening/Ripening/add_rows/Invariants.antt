use Rattle.not_node.proofs.Common.{◌≡◌, ◌&&◌, ◌||◌, not, ℤ, int_lt, take, has, Row, moment_at, waits, is_that_moment}
use Rattle.not_node.proofs.ripening.Ripening.add_rows.Given as goal

abbrev pub invariant-loop-row : goal.invariant-loop-row
invariant-loop-row g l = (at : ℤ) (r : Row) → waits l.self.waiting.keys at r ≡ (waits l.initial.self.waiting.keys at r || ((has (take l.row-index l.rows) r && is_that_moment (moment_at l.program l.pattern (g.F.Facts.map l.facts) r) at) && not (int_lt at l.floor)))
