use Rattle.temporal_net.proofs.{Common.{◌≡◌, ℕ, ◌<◌, false, cell}, Firsts.{is_first}}
use Rattle.temporal_net.proofs.table.first_edge.Given as goal

abbrev pub invariant-loop-number : goal.invariant-loop-number
invariant-loop-number l = (j : ℕ) → j < l.number → is_first l.edges (cell l.rows) l.from l.to j ≡ false
