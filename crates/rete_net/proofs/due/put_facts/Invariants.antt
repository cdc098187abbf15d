use Rattle.rete_net.proofs.Common.{◌≡◌, ℕ, Some, true, take, slice_get, list_any, lent, pattern_of, is_meant, condition_of, IsNodeFound, has_place, NetNode}
use Rattle.rete_net.proofs.due.put_facts.Given as goal

abbrev pub invariant-loop-fact : goal.invariant-loop-fact
invariant-loop-fact l = record {
  kept : (k : ℕ) → has_place l.initial.due.keys k ≡ true → has_place l.due.keys k ≡ true;
  put : (k : ℕ) (n : NetNode) → slice_get l.nodes k ≡ Some n → IsNodeFound l.index k n
      → list_any (is_meant (pattern_of (condition_of n.node))) (lent (take l.fact-index l.facts)) ≡ true → has_place l.due.keys k ≡ true;
}
