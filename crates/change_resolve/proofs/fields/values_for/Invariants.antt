use Rattle.change_resolve.proofs.Common.{◌≡◌, drop, ◌++◌, option_map, values_given}
use Rattle.change_resolve.proofs.fields.values_for.Given as goal

abbrev pub invariant-loop-field : goal.invariant-loop-field
invariant-loop-field l = option_map (λ vs. l.values.items ++ vs) (values_given (drop l.field-index l.fields) l.members) ≡ values_given l.fields l.members
