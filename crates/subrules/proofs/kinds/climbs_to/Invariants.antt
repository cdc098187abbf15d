use Rattle.subrules.proofs.Common.{◌≡◌, ◌-◌, length, option_map, list_any, above, is_type_of_name, ancestors}
use Rattle.subrules.proofs.kinds.climbs_to.Given as goal

abbrev pub invariant-loop : goal.invariant-loop
invariant-loop l = list_any (is_type_of_name l.over) (ancestors l.types (length l.types - l.counter) (option_map (λ t. t.now) l.up)) ≡ list_any (is_type_of_name l.over) (above l.types l.tree)
