use Rattle.drl_compile.proofs.Common.{◌≡◌, ◌++◌, drop, rules_of, observed_names}
use Rattle.drl_compile.proofs.observed.names_observed.Given as goal

abbrev pub invariant-loop-item : goal.invariant-loop-item
invariant-loop-item l = l.names ++ observed_names (rules_of (drop l.item-index l.items)) ≡ observed_names (rules_of l.items)
