use Rattle.subrules.proofs.Common.{◌≡◌, ◌++◌, drop, flat_map, conditions_of}
use Rattle.subrules.proofs.ways.conditions_in.Given as goal

abbrev pub invariant-loop-piece : goal.invariant-loop-piece
invariant-loop-piece l = l.way.items ++ flat_map conditions_of (drop l.piece-index l.pieces) ≡ flat_map conditions_of l.pieces
