use Rattle.rete_net.proofs.Common.{◌≡◌, ◌++◌, ◌<◌, ◌≤◌, ◌^◌, ◌-◌, ℕ, List, Some, length, slice_get, In, Delta, RuleChange, answer_in, AreRuled, delta_at}
use Rattle.rete_net.proofs.{Common.{no_change}, Telling.{From}}
use Rattle.rete_net.proofs.changes.changes_of.Given as goal

abbrev pub invariant-rules : goal.invariant-rules
invariant-rules l = record {
  within : l.next ≤ length l.ends;
  told : length l.ends < 2 ^ 16 → (first : Delta) (deltas : List Delta) → l.answered.none ≡ no_change → AreRuled l.answered l.ends
      → ((rule end : ℕ) → slice_get l.ends rule ≡ Some end → delta_at first deltas end ≡ answer_in l.answered end)
      → l.changes.items ++ From first deltas l.ends l.next ≡ From first deltas l.ends 0;
  rules : length l.ends < 2 ^ 16 → (c : RuleChange) → In c l.changes.items → c.rule.0 < length l.ends;
}

abbrev pub decreases-rules : goal.decreases-rules
decreases-rules l = length l.ends - l.next
