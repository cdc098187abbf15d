use Rattle.subrules.{specs.Known.{IsCount}, proofs.KnownLaws.{none_known}}
use Rattle.subrules.proofs.counts.counts.Goals as goal

pub loop-place-init : goal.loop-place-init
loop-place-init c = none_known (IsCount c.args.types.now) c.args.types.now c.in_ok-known.known.items c.in_ok-known.ensures
