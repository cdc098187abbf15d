use Rattle.session.proofs.Common.{◌≡◌, with_values}
use Rattle.session.proofs.moving.values_with.Given as goal

-- the sets that are left lead to the end
abbrev pub invariant-loop-place : goal.invariant-loop-place
invariant-loop-place l = with_values l.place-iterator.rest.items l.fields.items ≡ with_values l.fn.sets.items l.fn.fields.items
