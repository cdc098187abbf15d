use Rattle.counting_node.proofs.Common.{◌≡◌, ◌++◌, ℤ, List, take, in_rising_order}
use Rattle.counting_node.proofs.gathered.Gathered.with_values.Given as goal

abbrev pub invariant-loop-value : goal.invariant-loop-value
invariant-loop-value l = (l.now.kind ≡ l.fn.self.kind) × ((held : List ℤ) → l.fn.self.values ≡ in_rising_order held → l.now.values ≡ in_rising_order (held ++ take l.value-index l.values))
