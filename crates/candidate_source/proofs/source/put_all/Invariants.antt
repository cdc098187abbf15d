use Rattle.candidate_source.proofs.Common.{◌||◌, take, has_name, has_candidate, KeepsNames}
use Rattle.candidate_source.proofs.source.put_all.Given as goal

abbrev pub invariant-loop-who : goal.invariant-loop-who
invariant-loop-who g l = KeepsNames l.initial.own l.own (g.F.Facts.map l.facts) (λ who. has_candidate l.initial.own (g.F.Facts.map l.facts) who || has_name (take l.who-index l.names) who)
