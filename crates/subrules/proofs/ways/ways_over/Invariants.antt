use Rattle.subrules.proofs.Common.{◌≡◌, ◌++◌, ◌∷◌, [], map, drop, over_type, Plain}
use Rattle.subrules.proofs.ways.ways_over.Given as goal

abbrev pub invariant-loop-name : goal.invariant-loop-name
invariant-loop-name l = l.ways.items ++ map (λ name. Plain (over_type l.source name) ∷ []) (drop l.name-index l.names) ≡ map (λ name. Plain (over_type l.source name) ∷ []) l.names
