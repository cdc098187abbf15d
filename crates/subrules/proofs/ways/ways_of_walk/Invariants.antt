use Rattle.subrules.proofs.Common.{◌≡◌, drop, at_begin, walked}
use Rattle.subrules.proofs.ways.ways_of_walk.Given as goal

abbrev pub invariant-loop-piece : goal.invariant-loop-piece
invariant-loop-piece l = walked l.types l.walk (drop l.piece-index l.pieces) ≡ walked l.types at_begin l.pieces
