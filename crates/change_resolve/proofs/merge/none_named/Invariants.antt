use Rattle.change_resolve.proofs.Common.{◌≡◌, ◌≤◌, [], length, take, ◌-◌, fields_of}
use Rattle.change_resolve.proofs.merge.none_named.Given as goal

abbrev pub invariant-fill : goal.invariant-fill
invariant-fill l = record {
  within : length l.named.items ≤ length l.members;
  none : l.named.items ≡ fields_of [] (take (length l.named.items) l.members);
}

abbrev pub decreases-fill : goal.decreases-fill
decreases-fill l = length l.members - length l.named.items
