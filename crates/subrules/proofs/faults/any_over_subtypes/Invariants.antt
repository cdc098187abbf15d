use Rattle.subrules.proofs.Common.{◌≡◌, drop, list_any, is_over_subtypes}
use Rattle.subrules.proofs.faults.any_over_subtypes.Given as goal

abbrev pub invariant-loop-piece : goal.invariant-loop-piece
invariant-loop-piece l = list_any (is_over_subtypes l.types) (drop l.piece-index l.pieces) ≡ list_any (is_over_subtypes l.types) l.pieces
