use Rattle.{change_rules.proofs.Common.{Some, TypeInfo, type_named, ℕ, ◌<◌, ◌≡◌}, std.proofs.Common.{option_map, slice_get}}
use Rattle.change_rules.proofs.checked.are_first_types.Given as goal

abbrev pub invariant-loop-place : goal.invariant-loop-place
invariant-loop-place l = (k : ℕ) (ty : TypeInfo) → k < l.place → slice_get l.types k ≡ Some ty → option_map (λ (there : ℕ × TypeInfo). there.0) (type_named ty.name l.types 0) ≡ Some k
