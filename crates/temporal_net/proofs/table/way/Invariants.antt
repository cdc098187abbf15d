use Rattle.temporal_net.proofs.{Common.{◌≢◌, ℕ, ◌<◌, List, ◌++◌, length, None, cell, FollowsWay}, Ways.{edges_left}}
use Rattle.temporal_net.proofs.table.way.Given as goal

abbrev pub invariant-loop-at : goal.invariant-loop-at
invariant-loop-at l = record {
  inside : l.at < length l.rows;
  known : cell l.rows l.at l.to ≢ None;
  so_far : (rest : List ℕ) → FollowsWay (length l.rows) l.edges (cell l.rows) l.at l.to rest → FollowsWay (length l.rows) l.edges (cell l.rows) l.from l.to (l.numbers.items ++ rest);
}

abbrev pub decreases-loop-at : goal.decreases-loop-at
decreases-loop-at l = edges_left (cell l.rows l.at l.to)
