use Rattle.subrules.proofs.Common.{◌≡◌, ◌++◌, map, drop}
use Rattle.subrules.proofs.ways.add_joined.Given as goal

abbrev pub invariant-loop-second : goal.invariant-loop-second
invariant-loop-second l = l.ways.items ++ map (λ second. l.first ++ second) (drop l.second-index l.seconds) ≡ l.fn.ways.items ++ map (λ second. l.first ++ second) l.seconds
