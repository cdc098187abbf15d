use Rattle.subrules.proofs.Common.{◌≡◌, false, is_some, list_any}
use Rattle.subrules.proofs.known.nothing_known.Given as goal

abbrev pub invariant-loop : goal.invariant-loop
invariant-loop g l = list_any is_some l.known.items ≡ false
