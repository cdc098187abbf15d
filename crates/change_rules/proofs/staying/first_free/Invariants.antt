use Rattle.change_rules.proofs.Common.{IsThere, is_place, list_any, true, ℕ, ◌<◌, ◌≡◌}
use Rattle.change_rules.proofs.staying.first_free.Given as goal

abbrev pub invariant-loop-place : goal.invariant-loop-place
invariant-loop-place l = (k : ℕ) → k < l.place → IsThere l.old l.new l.rule k → list_any (is_place k) l.places ≡ true
