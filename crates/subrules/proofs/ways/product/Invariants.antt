use Rattle.subrules.proofs.Common.{◌≡◌, ◌++◌, drop, flat_map, times, each_behind}
use Rattle.subrules.proofs.ways.product.Given as goal

abbrev pub invariant-loop-first : goal.invariant-loop-first
invariant-loop-first l = l.ways.items ++ flat_map (each_behind l.seconds) (drop l.first-index l.firsts) ≡ times l.firsts l.seconds
