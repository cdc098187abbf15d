use Rattle.drl_typing.{proofs.Common.{◌≡◌, ◌+◌, ◌≤◌, drop, begin, any_condition}, specs.Times.{has_no_times}}
use Rattle.drl_typing.proofs.times.lack_times.Given as goal

abbrev pub invariant-loop-condition : goal.invariant-loop-condition
invariant-loop-condition l = record {
  same : any_condition (has_no_times l.types) l.types l.place (drop l.condition-index l.conditions) ≡ any_condition (has_no_times l.types) l.types begin l.conditions;
  counts : l.place.facts + l.place.results ≤ l.condition-index;
}
