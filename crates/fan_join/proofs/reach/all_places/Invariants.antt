use Rattle.fan_join.proofs.Common.{◌≡◌, ◌<◌, ℕ, true, has_place}
use Rattle.fan_join.proofs.reach.all_places.Given as goal

abbrev pub invariant-loop-place : goal.invariant-loop-place
invariant-loop-place l = (k : ℕ) → k < l.place → has_place l.places.keys k ≡ true
