use Rattle.{rete_net.proofs.Common.{◌≡◌, ℕ, Some, true, false, slice_get, is_in, has_place}, std.specs.Map.{keys_of}}
use Rattle.rete_net.proofs.fans.put_members.Given as goal

abbrev pub invariant-loop-member : goal.invariant-loop-member
invariant-loop-member l = record {
  still : (k : ℕ) → has_place l.initial.due.keys k ≡ true → has_place l.due.keys k ≡ true;
  woken : (m k : ℕ) → is_in (keys_of l.halves.entries) m ≡ true → slice_get l.places m ≡ Some k → is_in l.member-iterator m ≡ false → has_place l.due.keys k ≡ true;
}
