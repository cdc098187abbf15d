use Rattle.subrules.proofs.Common.{◌≡◌, ◌≤◌, drop, open_at_end}
use Rattle.subrules.proofs.watchers.is_closed.Given as goal

abbrev pub invariant-loop-piece : goal.invariant-loop-piece
invariant-loop-piece l = record {
  same : open_at_end l.open (drop l.piece-index l.pieces) ≡ open_at_end 0 l.pieces;
  few : l.open ≤ l.piece-index;
}
