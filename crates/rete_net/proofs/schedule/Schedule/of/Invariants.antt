use Rattle.rete_net.proofs.Common.{◌≡◌, ◌<◌, ℕ, Some, true, slice_get, is_changed_by_clock, IsScheduled, NetNode}
use Rattle.rete_net.proofs.schedule.Schedule.of.Given as goal

abbrev pub invariant-loop-place : goal.invariant-loop-place
invariant-loop-place l = (k : ℕ) (n : NetNode) → k < l.place → slice_get l.nodes k ≡ Some n → is_changed_by_clock n ≡ true → IsScheduled l.program l.sources l.schedule k n
