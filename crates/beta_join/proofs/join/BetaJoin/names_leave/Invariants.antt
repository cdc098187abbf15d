use Rattle.beta_join.proofs.Common.{◌&&◌, not, take, has_name, has_left, has_right, TurnedMemories}
use Rattle.beta_join.proofs.join.BetaJoin.names_leave.Given as goal

abbrev pub invariant-loop-who : goal.invariant-loop-who
invariant-loop-who g l = TurnedMemories l.initial.self.memories l.self.memories (g.F.Facts.map l.facts)
    (has_left l.initial.self.memories (g.F.Facts.map l.facts)) (λ c. has_right l.initial.self.memories (g.F.Facts.map l.facts) c && not (has_name (take l.who-index l.names) c)) l.initial.change l.change
