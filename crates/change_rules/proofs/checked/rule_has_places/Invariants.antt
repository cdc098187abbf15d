use Rattle.{change_rules.{proofs.Common.{Some, ℕ, ◌<◌, ◌≡◌}, specs.Checked.{HasPlacesIn}}, rule_model.specs.declared.condition.Condition.{Condition}}
use Rattle.std.proofs.Common.{slice_get}
use Rattle.change_rules.proofs.checked.rule_has_places.Given as goal

abbrev pub invariant-loop-place : goal.invariant-loop-place
invariant-loop-place l = (k : ℕ) (c : Condition) → k < l.place → slice_get l.rule.conditions k ≡ Some c → HasPlacesIn l.types l.entries c
