-- The parts of nodes, as other crates name them.
use Rattle.fold_fn.specs.Held.{Held}
use Rattle.join_memory.specs.declared.memories.Memories.{Memories}
use Rattle.beta_node.specs.declared.node.FoldNode.{FoldNode}

-- the rows before an accumulate, each with what is gathered beside it, and the facts that are gathered
abbrev pub gathered_tallies : FoldNode → Memories Held
gathered_tallies fold = fold.tally.memories
