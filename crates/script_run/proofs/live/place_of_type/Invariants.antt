use Rattle.{script_run.proofs.Common.{◌≡◌, drop}, change_resolve.specs.Changes.{type_named}}
use Rattle.script_run.proofs.live.place_of_type.Given as goal

abbrev pub invariant-loop-place : goal.invariant-loop-place
invariant-loop-place l = type_named l.name (drop l.place l.types) l.place ≡ type_named l.name l.types 0
