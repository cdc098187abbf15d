use Rattle.{std.proofs.Common.{Some, slice_get, ℕ, ◌<◌, ◌≡◌}, rule_model.specs.declared.program.Rule.{Rule}, image_making.specs.Moved.{Begins}}
use Rattle.image_making.proofs.extras.first_moved.Given as goal

abbrev pub invariant-loop-place : goal.invariant-loop-place
invariant-loop-place l = (k : ℕ) (rule : Rule) → k < l.place → slice_get l.new.rules k ≡ Some rule → Begins l.old l.new l.many l.ours rule.conditions → ⊥
