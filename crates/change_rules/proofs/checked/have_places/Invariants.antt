use Rattle.{change_rules.{proofs.Common.{Rule, Some, ℕ, ◌<◌, ◌≡◌, length}, specs.Checked.{HaveConditionPlaces}}, std.proofs.Common.{slice_get}}
use Rattle.change_rules.proofs.checked.have_places.Given as goal

abbrev pub invariant-loop-place : goal.invariant-loop-place
invariant-loop-place l = (k : ℕ) (rule : Rule) → k < l.place → slice_get l.program.rules k ≡ Some rule → HaveConditionPlaces (length l.program.types) (length l.program.entries) rule.conditions
