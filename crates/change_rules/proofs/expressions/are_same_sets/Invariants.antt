use Rattle.change_rules.proofs.Common.{take, ◌≡◌}
use Rattle.change_rules.proofs.expressions.are_same_sets.Given as goal

abbrev pub invariant-loop-place : goal.invariant-loop-place
invariant-loop-place l = take l.place l.ours ≡ take l.place l.theirs
