use Rattle.std.proofs.Common.{◌≡◌, take}
use Rattle.rule_model.proofs.same.are_same.Given as goal

abbrev pub invariant-loop-place : goal.invariant-loop-place
invariant-loop-place g l = take l.place l.ours ≡ take l.place l.theirs
