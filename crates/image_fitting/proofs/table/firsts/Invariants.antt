use Rattle.image_fitting.proofs.Tabling.{AreSoFar}
use Rattle.image_fitting.proofs.table.firsts.Given as goal

abbrev pub invariant-loop-other : goal.invariant-loop-other
invariant-loop-other l = AreSoFar l.program l.conditions l.firsts.items l.other
