use Rattle.subrules.{specs.Known.{IsHeir}, proofs.KnownLaws.{none_known}}
use Rattle.subrules.proofs.heirs.heirs.Goals as goal

pub loop-place-init : goal.loop-place-init
loop-place-init c = none_known (IsHeir c.args.types.now) c.args.types.now c.in_ok-known.known.items c.in_ok-known.ensures
