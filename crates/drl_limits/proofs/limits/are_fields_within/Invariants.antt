use Rattle.{drl_limits.proofs.Common.{◌≡◌, ℕ, List, map, drop, list_all, is_name}, drl_scope.specs.Declarations.{field_names}}
use Rattle.drl_limits.proofs.limits.are_fields_within.Given as goal

abbrev pub invariant-loop-field : goal.invariant-loop-field
invariant-loop-field l = list_all is_name (map (λ (field : List ℕ × List ℕ). field.0) (drop l.field-index l.tree.fields)) ≡ list_all is_name (field_names l.tree)
