use Rattle.subrules.proofs.Common.{◌≡◌, ◌++◌, flat_map}
use Rattle.subrules.proofs.watchers.add_ways.Given as goal

abbrev pub invariant-loop-way : goal.invariant-loop-way
invariant-loop-way l = l.conditions.items ++ flat_map (λ way. way) l.way-iterator.rest.items ≡ l.fn.conditions.items ++ flat_map (λ way. way) l.fn.ways.items
