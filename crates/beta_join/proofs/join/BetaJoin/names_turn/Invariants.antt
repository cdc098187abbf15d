use Rattle.beta_join.{proofs.Common.{take}, specs.Turns.{NamesTurned}}
use Rattle.beta_join.proofs.join.BetaJoin.names_turn.Given as goal

abbrev pub invariant-loop-who : goal.invariant-loop-who
invariant-loop-who g l = NamesTurned l.self.memories (g.F.Facts.map l.facts) l.comes l.names (take l.who-index l.names) l.initial.change l.change
