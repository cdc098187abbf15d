use Rattle.session.proofs.Common.{take, AreCounts}
use Rattle.session.proofs.counting.counts_of.Given as goal

abbrev pub invariant-loop-ty : goal.invariant-loop-ty
invariant-loop-ty l = AreCounts l.facts (take l.ty-index l.types) l.counts.items
