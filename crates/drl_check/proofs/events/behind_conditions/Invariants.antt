use Rattle.drl_check.proofs.Common.{◌≡◌, ◌+◌, ◌≤◌, drop, begin, behind_all}
use Rattle.drl_check.proofs.events.behind_conditions.Given as goal

abbrev pub invariant-loop-condition : goal.invariant-loop-condition
invariant-loop-condition l = record {
  same : behind_all l.types l.place (drop l.condition-index l.conditions) ≡ behind_all l.types begin l.conditions;
  counts : l.place.facts + l.place.results ≤ l.condition-index;
}
