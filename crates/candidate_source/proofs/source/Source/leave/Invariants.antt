use Rattle.candidate_source.proofs.Common.{take, HaveLeft}
use Rattle.candidate_source.proofs.source.Source.leave.Given as goal

abbrev pub invariant-loop-who : goal.invariant-loop-who
invariant-loop-who g l = HaveLeft l.initial.self l.self (g.F.Facts.map l.facts) (take l.who-index l.names) l.initial.handed l.handed
