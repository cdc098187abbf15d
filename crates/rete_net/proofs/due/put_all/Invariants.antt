use Rattle.rete_net.proofs.Common.{◌≡◌, ◌||◌, ℕ, take, nat_eq, list_any, has_place}
use Rattle.rete_net.proofs.due.put_all.Given as goal

abbrev pub invariant-loop-place : goal.invariant-loop-place
invariant-loop-place l = (k : ℕ) → has_place l.set.keys k ≡ (has_place l.initial.set.keys k || list_any (nat_eq k) (take l.place-index l.places))
