use Rattle.join_tests.proofs.Common.{◌≡◌, take}
use Rattle.join_tests.proofs.row_key.are_same.Given as goal

abbrev pub invariant-loop-place : goal.invariant-loop-place
invariant-loop-place l = take l.place l.ours ≡ take l.place l.theirs
