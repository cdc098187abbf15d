use Rattle.subrules.proofs.Common.{AreKnown, IsHeir}
use Rattle.subrules.proofs.heirs.heirs.Given as goal

abbrev pub invariant-loop-place : goal.invariant-loop-place
invariant-loop-place l = AreKnown (IsHeir l.types) l.types l.known.items
