use Rattle.subrules.proofs.Common.{◌≡◌, ◌++◌, drop, flat_map, subtype_at}
use Rattle.subrules.proofs.kinds.add_below.Given as goal

abbrev pub invariant-loop-place : goal.invariant-loop-place
invariant-loop-place l = l.kinds.items ++ flat_map (subtype_at l.types l.name) (drop l.place-index l.places) ≡ l.fn.kinds.items ++ flat_map (subtype_at l.types l.name) l.places
