use Rattle.drl_scope.proofs.Common.{◌≡◌, drop, lateness_named}
use Rattle.drl_scope.proofs.entries.lateness_of_entry.Given as goal

abbrev pub invariant-loop-item : goal.invariant-loop-item
invariant-loop-item l = lateness_named (drop l.item-index l.items) l.name ≡ lateness_named l.items l.name
