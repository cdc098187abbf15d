use Rattle.rete_net.proofs.Common.{◌≡◌, ◌<◌, ℕ, None, Some, true, slice_get, is_listed, seat_at, NetNode}
use Rattle.rete_net.proofs.seating.lone_of.Given as goal

abbrev pub invariant-loop-place : goal.invariant-loop-place
invariant-loop-place l = (k parent : ℕ) (n : NetNode) → k < l.place → slice_get l.nodes k ≡ Some n → n.parent ≡ Some parent → seat_at l.seats k ≡ None → is_listed l.lone parent k ≡ true
