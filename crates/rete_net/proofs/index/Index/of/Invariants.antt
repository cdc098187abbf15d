use Rattle.rete_net.proofs.Common.{◌≡◌, ◌<◌, ℕ, None, Some, true, false, slice_get, is_in, is_listed, IsNodeFound, NetNode}
use Rattle.candidate_source.specs.Sources.{is_follower}
use Rattle.rete_net.proofs.index.Index.of.Given as goal

abbrev pub invariant-loop-place : goal.invariant-loop-place
invariant-loop-place l = record {
  found : (k : ℕ) (n : NetNode) → k < l.place → slice_get l.nodes k ≡ Some n → is_follower l.sources k ≡ false → IsNodeFound l.index k n;
  firsts : (k : ℕ) (n : NetNode) → k < l.place → slice_get l.nodes k ≡ Some n → n.parent ≡ None → is_in l.index.firsts.items k ≡ true;
}

abbrev pub invariant-loop-rule : goal.invariant-loop-rule
invariant-loop-rule l = record {
  found : (k : ℕ) (n : NetNode) → slice_get l.nodes k ≡ Some n → is_follower l.sources k ≡ false → IsNodeFound l.index k n;
  firsts : (k : ℕ) (n : NetNode) → slice_get l.nodes k ≡ Some n → n.parent ≡ None → is_in l.index.firsts.items k ≡ true;
  ended : (rule end : ℕ) → rule < l.rule → slice_get l.ends rule ≡ Some end → is_listed l.index.rules end rule ≡ true;
}
