use Rattle.subrules.proofs.Common.{◌≡◌, ◌+◌, nat_lt, map, drop, number_of_fields}
use Rattle.subrules.proofs.type_faults.exceed.Given as goal

abbrev pub invariant-loop-tree : goal.invariant-loop-tree
invariant-loop-tree l = nat_lt 32 (l.count + number_of_fields (map (λ t. t.now) (drop l.tree-index l.above))) ≡ nat_lt 32 (l.own + number_of_fields (map (λ t. t.now) l.above))
