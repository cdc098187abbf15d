use Rattle.temporal_net.proofs.Common.{◌≡◌, ℕ, ◌<◌, ◌≤◌, get_or, Some, None, lowered}
use Rattle.temporal_net.proofs.table.lower_row.Given as goal

abbrev pub invariant-loop-y : goal.invariant-loop-y
invariant-loop-y l = record {
  done : (q : ℕ) → q < l.y → get_or l.row q None ≡ lowered (get_or l.fn.row q None) (Some l.first) (get_or l.through q None);
  ahead : (q : ℕ) → l.y ≤ q → get_or l.row q None ≡ get_or l.fn.row q None;
}
