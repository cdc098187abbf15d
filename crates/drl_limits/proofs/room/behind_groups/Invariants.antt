use Rattle.{drl_limits.proofs.Common.{◌≡◌, List, length, drop, sum_by, left_of}, drl_grammar.specs.declared.condition.Cmp.{Cmp}}
use Rattle.drl_limits.proofs.room.behind_groups.Given as goal

abbrev pub invariant-loop-group : goal.invariant-loop-group
invariant-loop-group l = left_of l.left (sum_by (λ (group : List Cmp). length group) (drop l.group-index l.groups)) ≡ left_of l.room (sum_by (λ (group : List Cmp). length group) l.groups)
