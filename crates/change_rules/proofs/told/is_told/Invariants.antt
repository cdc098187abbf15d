use Rattle.{change_rules.{proofs.Common.{drop, list_any, ◌≡◌}, specs.Told.{told_list}}, rule_change.specs.Told.{is_same_told}}
use Rattle.change_rules.proofs.told.is_told.Given as goal

abbrev pub invariant-loop-rule : goal.invariant-loop-rule
invariant-loop-rule l =
    list_any (is_same_told (l.name, l.status)) (told_list (drop l.rule-index l.told)) ≡ list_any (is_same_told (l.name, l.status)) (told_list l.told)
