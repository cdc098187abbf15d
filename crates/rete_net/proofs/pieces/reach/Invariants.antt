use Rattle.rete_net.proofs.Common.{◌≡◌, ℕ, ◌+◌, ◌-◌, length, grouped_facts_at}
use Rattle.rete_net.proofs.pieces.reach.Given as goal

abbrev pub invariant-reach : goal.invariant-reach
invariant-reach l = (ty : ℕ) → grouped_facts_at l.groups.items ty ≡ grouped_facts_at l.initial.groups.items ty

abbrev pub decreases-reach : goal.decreases-reach
decreases-reach l = (l.number + 1) - length l.groups.items
