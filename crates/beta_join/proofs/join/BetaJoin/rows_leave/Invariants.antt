use Rattle.beta_join.proofs.Common.{◌≡◌, ◌&&◌, not, take, has, has_left, has_right, TurnedMemories}
use Rattle.beta_join.proofs.join.BetaJoin.rows_leave.Given as goal

abbrev pub invariant-loop-row : goal.invariant-loop-row
invariant-loop-row g l = record {
  turned : TurnedMemories l.initial.self.memories l.self.memories (g.F.Facts.map l.facts)
      (λ r. has_left l.initial.self.memories (g.F.Facts.map l.facts) r && not (has (take l.row-index l.rows) r)) (has_right l.initial.self.memories (g.F.Facts.map l.facts)) l.initial.change l.change;
  right : l.self.memories.right ≡ l.initial.self.memories.right;
}
