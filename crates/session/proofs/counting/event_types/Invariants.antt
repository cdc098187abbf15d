use Rattle.session.proofs.Common.{◌≡◌, ◌++◌, drop, event_types}
use Rattle.session.proofs.counting.event_types.Given as goal

abbrev pub invariant-loop-place : goal.invariant-loop-place
invariant-loop-place l = l.found.items ++ event_types (drop l.place l.types) l.place ≡ event_types l.types 0
