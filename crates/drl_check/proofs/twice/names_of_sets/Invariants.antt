use Rattle.drl_check.proofs.Common.{◌≡◌, ◌++◌, drop, set_names}
use Rattle.drl_check.proofs.twice.names_of_sets.Given as goal

abbrev pub invariant-loop-set : goal.invariant-loop-set
invariant-loop-set l = l.names.items ++ set_names (drop l.set-index l.sets) ≡ set_names l.sets
