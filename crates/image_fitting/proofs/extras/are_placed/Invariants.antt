use Rattle.image_fitting.proofs.Common.{take, All, IsForgettable, IsPlaceTable}
use Rattle.image_fitting.proofs.extras.are_placed.Given as goal

abbrev pub invariant-loop-extra : goal.invariant-loop-extra
invariant-loop-extra l = IsPlaceTable l.program l.table → All (IsForgettable l.program l.lives) (take l.extra-index l.extras)
