use Rattle.{change_rules.{proofs.Common.{drop, ◌≡◌}, specs.Told.{all_told, told_list}}, rule_change.specs.Told.{gone_told}}
use Rattle.change_rules.proofs.told.tell_gone.Given as goal

abbrev pub invariant-loop-place : goal.invariant-loop-place
invariant-loop-place l =
    all_told (told_list l.told.items) (gone_told l.stay (drop l.place l.rules) l.place) ≡ all_told (told_list l.fn.told.items) (gone_told l.stay l.rules 0)
