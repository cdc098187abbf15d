use Rattle.rete_net.proofs.Common.{◌≡◌, ◌<◌, ◌≤◌, ◌-◌, ℕ, [], Some, length, slice_get, answer_in, AreRuled, rows_for, AreListed}
use Rattle.rete_net.proofs.forgetting.rows_of_rules.Given as goal

abbrev pub invariant-rules : goal.invariant-rules
invariant-rules l = record {
  within : l.next ≤ length l.ends;
  listed : AreListed l.answers.items l.next;
  rows : l.dropped.none ≡ [] → AreRuled l.dropped l.ends → (place end : ℕ) → place < l.next → slice_get l.ends place ≡ Some end → rows_for l.answers.items place ≡ answer_in l.dropped end;
}

abbrev pub decreases-rules : goal.decreases-rules
decreases-rules l = length l.ends - l.next
