use Rattle.subrules.{specs.Known.{IsLeading}, proofs.KnownLaws.{none_known}}
use Rattle.subrules.proofs.kinds.leading.Goals as goal

pub loop-place-init : goal.loop-place-init
loop-place-init c = none_known (IsLeading c.args.types.now c.args.over.now) c.args.types.now c.in_ok-known.known.items c.in_ok-known.ensures
