use Rattle.rete_net.proofs.Common.{◌≡◌, ℕ, None, length, seat_at}
use Rattle.rete_net.proofs.fans.Fans.none.Given as goal

abbrev pub invariant-loop-place : goal.invariant-loop-place
invariant-loop-place l = record { many : length l.seats.items ≡ l.place; none : (k : ℕ) → seat_at l.seats.items k ≡ None }
