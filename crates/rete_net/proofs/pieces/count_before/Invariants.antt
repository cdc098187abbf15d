use Rattle.rete_net.proofs.{Common.{◌-◌, ◌≤◌, length, IsStrictlySortedBy, extra_cmp}, Searched.{Before, Behind}}
use Rattle.rete_net.proofs.pieces.count_before.Given as goal

abbrev pub invariant-search : goal.invariant-search
invariant-search l = record {
  ordered : l.low ≤ l.high;
  within : l.high ≤ length l.extras;
  before : (sorted : IsStrictlySortedBy extra_cmp l.extras) → Before l.under l.owner l.extras sorted l.low;
  behind : (sorted : IsStrictlySortedBy extra_cmp l.extras) → Behind l.under l.owner l.extras sorted l.high;
}

abbrev pub decreases-search : goal.decreases-search
decreases-search l = l.high - l.low
