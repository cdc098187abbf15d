use Rattle.subrules.proofs.Common.{AreKnown, IsLeading}
use Rattle.subrules.proofs.kinds.leading.Given as goal

abbrev pub invariant-loop-place : goal.invariant-loop-place
invariant-loop-place l = AreKnown (IsLeading l.types l.over) l.types l.known.items
