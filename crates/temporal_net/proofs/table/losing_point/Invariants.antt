use Rattle.temporal_net.proofs.Common.{◌≡◌, ℕ, ◌<◌, false, loses_over}
use Rattle.temporal_net.proofs.table.losing_point.Given as goal

abbrev pub invariant-loop-x : goal.invariant-loop-x
invariant-loop-x l = (x : ℕ) → x < l.x → loses_over l.rows l.via x ≡ false
