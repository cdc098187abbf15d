use Rattle.{change_rules.{proofs.Common.{drop, place_in, ◌≡◌}, specs.Told.{all_told, told_list}}, rule_change.specs.Told.{new_told}}
use Rattle.change_rules.proofs.told.tell_new.Given as goal

abbrev pub invariant-loop-place : goal.invariant-loop-place
invariant-loop-place l =
    all_told (told_list l.told.items) (new_told (place_in l.places) (drop l.place l.rules) l.place)
    ≡ all_told (told_list l.fn.told.items) (new_told (place_in l.places) l.rules 0)
