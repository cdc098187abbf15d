use Rattle.subrules.proofs.Common.{◌≡◌, drop, list_any, is_varied}
use Rattle.subrules.proofs.varied.any_varied.Given as goal

abbrev pub invariant-loop-piece : goal.invariant-loop-piece
invariant-loop-piece l = list_any (is_varied l.types) (drop l.piece-index l.pieces) ≡ list_any (is_varied l.types) l.pieces
