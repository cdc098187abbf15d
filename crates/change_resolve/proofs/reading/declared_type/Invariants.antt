use Rattle.change_resolve.proofs.Common.{◌≡◌, drop, type_named}
use Rattle.change_resolve.proofs.reading.declared_type.Given as goal

abbrev pub invariant-loop-place : goal.invariant-loop-place
invariant-loop-place l = type_named l.name (drop l.place l.types) l.place ≡ type_named l.name l.types 0
