use Rattle.rete_net.proofs.Common.{◌≡◌, ◌||◌, ℕ, Some, true, length, slice_get, pattern_of, is_meant, condition_of, is_in, has_place, NetNode}
use Rattle.rete_net.proofs.due.put_hits.Given as goal

abbrev pub invariant-hits : goal.invariant-hits
invariant-hits l = record {
  kept : (k : ℕ) → has_place l.initial.due.keys k ≡ true → has_place l.due.keys k ≡ true;
  put : (k : ℕ) (n : NetNode) → slice_get l.nodes k ≡ Some n → is_in l.initial.hits k ≡ true → is_meant (pattern_of (condition_of n.node)) l.fact ≡ true
      → (has_place l.due.keys k || is_in l.hits k) ≡ true;
}

abbrev pub decreases-hits : goal.decreases-hits
decreases-hits l = length l.hits
