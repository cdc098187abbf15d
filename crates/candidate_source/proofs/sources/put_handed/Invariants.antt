use Rattle.{candidate_source.proofs.Common.{◌≡◌, ℕ, true, false, has_place}, std.specs.Map.{keys_of}}
use Rattle.candidate_source.proofs.sources.put_handed.Given as goal

abbrev pub invariant-loop-place : goal.invariant-loop-place
invariant-loop-place l = record {
  kept : (k : ℕ) → has_place l.initial.due.keys k ≡ true → has_place l.due.keys k ≡ true;
  put : (k : ℕ) → has_place (keys_of l.handed.entries) k ≡ true → has_place l.place-iterator k ≡ false → has_place l.due.keys k ≡ true;
}
