use Rattle.drl_typing.{proofs.Common.{◌≡◌, ◌+◌, ◌≤◌, drop, begin, behind_all, any_condition}, specs.Asked.{asked_of}}
use Rattle.drl_typing.proofs.asked.is_so_in_rule.Given as goal

abbrev pub invariant-loop-condition : goal.invariant-loop-condition
invariant-loop-condition l = record {
  same : any_condition (asked_of l.asked l.types) l.types l.place (drop l.condition-index l.tree.conditions) ≡ any_condition (asked_of l.asked l.types) l.types begin l.tree.conditions;
  seen : behind_all l.types l.place (drop l.condition-index l.tree.conditions) ≡ behind_all l.types begin l.tree.conditions;
  counts : l.place.facts + l.place.results ≤ l.condition-index;
}
