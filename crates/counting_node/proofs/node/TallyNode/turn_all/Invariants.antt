use Rattle.counting_node.proofs.Common.{◌≡◌, take, has, has_left, has_right, shown, PartStep, AllTurned}
use Rattle.counting_node.proofs.node.TallyNode.turn_all.Given as goal

abbrev pub invariant-loop-row : goal.invariant-loop-row
invariant-loop-row g l = record {
  turned : PartStep (shown g.T.Tally.origin g.T.Tally.gives (g.T.Tally.output l.plan)) (AllTurned (g.T.Tally.holds l.plan) (g.F.Facts.map l.facts) l.comes l.who (has (take l.row-index l.rows))) l.initial.self.memories l.self.memories (g.F.Facts.map l.facts)
      (has_left l.initial.self.memories (g.F.Facts.map l.facts)) (has_right l.initial.self.memories (g.F.Facts.map l.facts)) l.initial.change l.change;
  right : l.self.memories.right ≡ l.initial.self.memories.right;
}
