use Rattle.subrules.proofs.Common.{◌≡◌, [], drop, with_names}
use Rattle.subrules.proofs.hierarchy.each_once.Given as goal

abbrev pub invariant-loop-name : goal.invariant-loop-name
invariant-loop-name l = with_names l.once (drop l.name-index l.names) ≡ with_names [] l.names
