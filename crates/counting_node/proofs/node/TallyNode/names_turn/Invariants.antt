use Rattle.counting_node.proofs.Common.{◌≡◌, take, has_left, has_right, shown, PartStep, AllFollowMoved}
use Rattle.counting_node.proofs.node.TallyNode.names_turn.Given as goal

abbrev pub invariant-loop-who : goal.invariant-loop-who
invariant-loop-who g l = record {
  turned : PartStep (shown g.T.Tally.origin g.T.Tally.gives (g.T.Tally.output l.plan)) (AllFollowMoved (g.T.Tally.holds l.plan) (g.F.Facts.map l.facts) l.comes l.names (take l.who-index l.names)) l.initial.self.memories l.self.memories (g.F.Facts.map l.facts)
      (has_left l.initial.self.memories (g.F.Facts.map l.facts)) (has_right l.initial.self.memories (g.F.Facts.map l.facts)) l.initial.change l.change;
  right : l.self.memories.right ≡ l.initial.self.memories.right;
}
