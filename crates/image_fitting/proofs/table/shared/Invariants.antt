use Rattle.image_fitting.proofs.Common.{◌≡◌, take}
use Rattle.image_fitting.proofs.table.shared.Given as goal

abbrev pub invariant-loop-place : goal.invariant-loop-place
invariant-loop-place l = take l.place l.ours ≡ take l.place l.theirs
