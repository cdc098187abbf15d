use Rattle.subrules.proofs.Common.{◌≡◌, drop, at_no_piece, all_measured}
use Rattle.subrules.proofs.sizes.measure.Given as goal

abbrev pub invariant-loop-piece : goal.invariant-loop-piece
invariant-loop-piece l = all_measured l.types l.walk (drop l.piece-index l.pieces) ≡ all_measured l.types at_no_piece l.pieces
