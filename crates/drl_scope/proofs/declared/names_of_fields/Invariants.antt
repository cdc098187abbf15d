use Rattle.drl_scope.proofs.Common.{◌≡◌, ◌++◌, ℕ, List, map, drop, field_names}
use Rattle.drl_scope.proofs.declared.names_of_fields.Given as goal

abbrev pub invariant-loop-field : goal.invariant-loop-field
invariant-loop-field l = l.names.items ++ map (λ (field : List ℕ × List ℕ). field.0) (drop l.field-index l.tree.fields) ≡ field_names l.tree
