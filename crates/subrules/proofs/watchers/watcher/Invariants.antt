use Rattle.subrules.proofs.Common.{◌≡◌, ◌++◌, drop, flat_map, watching}
use Rattle.subrules.proofs.watchers.watcher.Given as goal

abbrev pub invariant-loop-piece : goal.invariant-loop-piece
invariant-loop-piece l = l.conditions.items ++ flat_map (watching l.types) (drop l.piece-index l.rule.pieces) ≡ flat_map (watching l.types) l.rule.pieces
