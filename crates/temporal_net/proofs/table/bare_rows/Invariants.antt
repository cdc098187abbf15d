use Rattle.temporal_net.proofs.Common.{◌≡◌, ℕ, ◌<◌, length, cond, eqb, Some, None, cell, zero_distance}
use Rattle.temporal_net.proofs.table.bare_rows.Given as goal

abbrev pub invariant-loop-point : goal.invariant-loop-point
invariant-loop-point l = record {
  tall : length l.rows.items ≡ l.point;
  cells : (p q : ℕ) → p < l.point → cell l.rows.items p q ≡ cond (eqb p q) (Some zero_distance) None;
}
