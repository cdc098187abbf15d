use Rattle.temporal_net.proofs.Common.{◌≡◌, ℕ, ◌<◌, ◌≤◌, length, get_or, [], cell, lowered}
use Rattle.temporal_net.proofs.table.lower_over.Given as goal

abbrev pub invariant-loop-row : goal.invariant-loop-row
invariant-loop-row l = record {
  done : (x y : ℕ) → x < l.row-index → y < length l.fn.rows → cell l.rows x y ≡ lowered (cell l.fn.rows x y) (cell l.fn.rows x l.via) (cell l.fn.rows l.via y);
  ahead : (x : ℕ) → l.row-index ≤ x → get_or l.rows x [] ≡ get_or l.fn.rows x [];
}
