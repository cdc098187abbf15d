use Rattle.subrules.proofs.Common.{◌≡◌, ◌++◌, ◌-◌, length, map, option_map, above, ancestors}
use Rattle.subrules.proofs.hierarchy.Hierarchy.above.Given as goal

abbrev pub invariant-loop : goal.invariant-loop
invariant-loop l = map (λ t. t.now) l.found.items ++ ancestors l.self (length l.self - l.counter) (option_map (λ t. t.now) l.up) ≡ above l.self l.tree
