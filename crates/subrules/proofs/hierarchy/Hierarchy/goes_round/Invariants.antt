use Rattle.subrules.proofs.Common.{◌≡◌, ◌-◌, length, option_map, goes_round, goes_on}
use Rattle.subrules.proofs.hierarchy.Hierarchy.goes_round.Given as goal

abbrev pub invariant-loop : goal.invariant-loop
invariant-loop l = goes_on l.self (length l.self - l.counter) (option_map (λ t. t.now) l.up) ≡ goes_round l.self l.tree
