use Rattle.rete_net.proofs.Common.{◌≡◌, ℕ, Some, true, take, slice_get, pattern_of, is_meant, condition_of, is_in, has_place, NetNode}
use Rattle.rete_net.proofs.due.put_meant.Given as goal

abbrev pub invariant-loop-place : goal.invariant-loop-place
invariant-loop-place l = record {
  kept : (k : ℕ) → has_place l.initial.due.keys k ≡ true → has_place l.due.keys k ≡ true;
  put : (k : ℕ) (n : NetNode) → slice_get l.nodes k ≡ Some n → is_in (take l.place-index l.places) k ≡ true
      → is_meant (pattern_of (condition_of n.node)) l.fact ≡ true → has_place l.due.keys k ≡ true;
}
