use Rattle.rete_net.proofs.{Common.{slice_get, given_span}, Fanned.{IsTurnedTo}}
use Rattle.rete_net.proofs.fans.Fans.turn_rows.Given as goal

abbrev pub invariant-loop-fan : goal.invariant-loop-fan
invariant-loop-fan g l = IsTurnedTo (g.F.Facts.map l.facts) l.gone l.come l.fn.self l.self (given_span (slice_get l.fn.self.spans.items l.parent)) l.initial.due.keys l.due.keys l.fan
