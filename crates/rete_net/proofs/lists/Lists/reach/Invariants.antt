use Rattle.rete_net.proofs.Common.{◌≡◌, ℕ, ◌+◌, ◌-◌, true, length, is_listed}
use Rattle.rete_net.proofs.lists.Lists.reach.Given as goal

abbrev pub invariant-reach : goal.invariant-reach
invariant-reach l = (n k : ℕ) → is_listed l.initial.self n k ≡ true → is_listed l.self n k ≡ true

abbrev pub decreases-reach : goal.decreases-reach
decreases-reach l = (l.number + 1) - length l.self.lists.items
