use Rattle.subrules.proofs.Common.{◌≡◌, ◌++◌}
use Rattle.subrules.proofs.types.behind_fields.Given as goal

abbrev pub invariant-loop-field : goal.invariant-loop-field
invariant-loop-field l = l.all.items ++ l.field-iterator.rest.items ≡ l.first ++ l.fn.fields.items
