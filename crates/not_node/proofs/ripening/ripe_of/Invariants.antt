use Rattle.not_node.proofs.Common.{◌≡◌, ◌&&◌, take, has, Row, moment_at, mature}
use Rattle.not_node.proofs.ripening.ripe_of.Given as goal

abbrev pub invariant-loop-row : goal.invariant-loop-row
invariant-loop-row g l = (r : Row) → has l.found.items r ≡ (has (take l.row-index l.rows) r && mature l.floor (moment_at l.program l.pattern (g.F.Facts.map l.facts) r))
