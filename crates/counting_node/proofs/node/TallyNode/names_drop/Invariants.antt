use Rattle.counting_node.proofs.Common.{◌≡◌, ◌&&◌, not, take, Row, has_name, left_at, has_left, has_right, KeepsMemories}
use Rattle.counting_node.proofs.node.TallyNode.names_drop.Given as goal

abbrev pub invariant-loop-who : goal.invariant-loop-who
invariant-loop-who g l = record {
  keeps : KeepsMemories l.initial.self.memories l.self.memories (g.F.Facts.map l.facts) (has_left l.initial.self.memories (g.F.Facts.map l.facts))
      (λ c. has_right l.initial.self.memories (g.F.Facts.map l.facts) c && not (has_name (take l.who-index l.names) c));
  left : (r : Row) → left_at l.self.memories (g.F.Facts.map l.facts) r ≡ left_at l.initial.self.memories (g.F.Facts.map l.facts) r;
}
