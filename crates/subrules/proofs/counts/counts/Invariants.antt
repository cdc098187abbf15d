use Rattle.subrules.proofs.Common.{AreKnown, IsCount}
use Rattle.subrules.proofs.counts.counts.Given as goal

abbrev pub invariant-loop-place : goal.invariant-loop-place
invariant-loop-place l = AreKnown (IsCount l.types) l.types l.known.items
