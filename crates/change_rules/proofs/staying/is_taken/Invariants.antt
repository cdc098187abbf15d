use Rattle.change_rules.proofs.Common.{drop, is_place, list_any, ◌≡◌}
use Rattle.change_rules.proofs.staying.is_taken.Given as goal

abbrev pub invariant-loop-place : goal.invariant-loop-place
invariant-loop-place l = list_any (is_place l.old) (drop l.place-index l.places) ≡ list_any (is_place l.old) l.places
