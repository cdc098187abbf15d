use Rattle.session.proofs.Common.{take, AreMarking}
use Rattle.session.proofs.restoring.mark_fired.Given as goal

abbrev pub invariant-loop-matched : goal.invariant-loop-matched
invariant-loop-matched l = AreMarking l.came.keys l.fn.agenda l.agenda (take l.matched-index l.fired)
