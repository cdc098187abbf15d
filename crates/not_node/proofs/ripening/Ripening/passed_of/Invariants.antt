use Rattle.not_node.proofs.Common.{◌≡◌, ◌&&◌, not, take, has, Row, moment_at, waits_at}
use Rattle.not_node.proofs.ripening.Ripening.passed_of.Given as goal

abbrev pub invariant-loop-row : goal.invariant-loop-row
invariant-loop-row g l = (r : Row) → has l.found.items r ≡ (has (take l.row-index l.rows) r && not (waits_at l.self.waiting.keys (moment_at l.program l.pattern (g.F.Facts.map l.facts) r) r))
