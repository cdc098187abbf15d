use Rattle.counting_node.proofs.Common.{◌&&◌, not, take, has_name, has_left, has_right, shown, PartStep, AllFollow}
use Rattle.counting_node.proofs.node.TallyNode.names_leave.Given as goal

abbrev pub invariant-loop-who : goal.invariant-loop-who
invariant-loop-who g l = PartStep (shown g.T.Tally.origin g.T.Tally.gives (g.T.Tally.output l.plan)) (AllFollow (g.T.Tally.holds l.plan) (g.F.Facts.map l.facts) (has_name l.names)) l.initial.self.memories l.self.memories (g.F.Facts.map l.facts)
    (has_left l.initial.self.memories (g.F.Facts.map l.facts)) (λ c. has_right l.initial.self.memories (g.F.Facts.map l.facts) c && not (has_name (take l.who-index l.names) c)) l.initial.change l.change
