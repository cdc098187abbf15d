use Rattle.counting_node.proofs.Common.{◌≡◌, ◌||◌, take, has, InOrder, has_left, has_right, extra_for, rows_of_extras, shown, PartStep, AllLoaded}
use Rattle.counting_node.proofs.node.TallyNode.rows_load.Given as goal

abbrev pub invariant-loop-row : goal.invariant-loop-row
invariant-loop-row g l = record {
  turned : PartStep (shown g.T.Tally.origin g.T.Tally.gives (g.T.Tally.output l.plan)) (λ m n. InOrder (rows_of_extras l.extras) → AllLoaded (g.T.Tally.holds l.plan) (g.T.Tally.laden l.plan) (g.F.Facts.map l.facts) (extra_for l.extras) (has (take l.row-index l.rows)) m n) l.initial.self.memories l.self.memories (g.F.Facts.map l.facts)
      (λ r. has_left l.initial.self.memories (g.F.Facts.map l.facts) r || has (take l.row-index l.rows) r) (has_right l.initial.self.memories (g.F.Facts.map l.facts)) l.initial.change l.change;
  right : l.self.memories.right ≡ l.initial.self.memories.right;
}
