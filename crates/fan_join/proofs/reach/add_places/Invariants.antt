use Rattle.{fan_join.proofs.Common.{◌≡◌, ◌||◌, ℕ, true, is_some, nat_cmp, has_place}, alpha_memory.specs.Bucket.{found}}
use Rattle.fan_join.proofs.reach.add_places.Given as goal

-- with those to come all are there
abbrev pub invariant-loop-place : goal.invariant-loop-place
invariant-loop-place l = record {
  stays : (k : ℕ) → has_place l.initial.places.keys k ≡ true → has_place l.places.keys k ≡ true;
  added : (k : ℕ) → is_some (found nat_cmp l.bucket k) ≡ true → (has_place l.places.keys k || has_place l.place-iterator k) ≡ true;
}
