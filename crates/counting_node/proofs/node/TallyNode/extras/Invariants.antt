use Rattle.{counting_node.proofs.{Common.{take, TellsBeside, option_map}, Searching.{AreListed}}, join_memory.specs.Shared.{over}}
use Rattle.counting_node.proofs.node.TallyNode.extras.Given as goal

abbrev pub invariant-loop-row : goal.invariant-loop-row
invariant-loop-row g l = AreListed (TellsBeside (g.T.Tally.holds l.plan) (g.T.Tally.gathered l.plan) (over l.self.memories (option_map (λ s. s.now) l.shared)) (g.F.Facts.map l.facts) l.rule l.condition) (take l.row-index l.row-items) l.extras.items
