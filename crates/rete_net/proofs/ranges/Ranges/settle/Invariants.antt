use Rattle.rete_net.proofs.Common.{◌≡◌, ℕ, Fact, length, IsInRange}
use Rattle.rete_net.proofs.ranges.Ranges.settle.Given as goal

abbrev pub invariant-loop-at : goal.invariant-loop-at
invariant-loop-at l = record {
  found : (f : Fact) (k : ℕ) → IsInRange l.initial.self f k → IsInRange l.self f k;
  count : length l.self.fields.items ≡ length l.initial.self.fields.items;
}
