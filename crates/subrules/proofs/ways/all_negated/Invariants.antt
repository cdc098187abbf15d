use Rattle.subrules.proofs.Common.{◌≡◌, ◌++◌, map, drop, over_type, Negated}
use Rattle.subrules.proofs.ways.all_negated.Given as goal

abbrev pub invariant-loop-name : goal.invariant-loop-name
invariant-loop-name l = l.way.items ++ map (λ name. Negated (over_type l.source name)) (drop l.name-index l.names) ≡ map (λ name. Negated (over_type l.source name)) l.names
