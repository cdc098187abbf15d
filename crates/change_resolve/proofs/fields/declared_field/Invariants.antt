use Rattle.change_resolve.proofs.Common.{◌≡◌, drop, field_named}
use Rattle.change_resolve.proofs.fields.declared_field.Given as goal

abbrev pub invariant-loop-place : goal.invariant-loop-place
invariant-loop-place l = field_named l.name (drop l.place l.fields) l.place ≡ field_named l.name l.fields 0
