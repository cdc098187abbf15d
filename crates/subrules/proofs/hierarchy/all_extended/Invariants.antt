use Rattle.subrules.proofs.Common.{◌≡◌, ◌++◌, map, drop, flat_map, extended_by}
use Rattle.subrules.proofs.hierarchy.all_extended.Given as goal

abbrev pub invariant-loop-name : goal.invariant-loop-name
invariant-loop-name l = l.all ++ flat_map (extended_by (map (λ t. t.now) l.types)) (drop l.name-index l.first) ≡ flat_map (extended_by (map (λ t. t.now) l.types)) l.first
