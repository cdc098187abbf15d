use Rattle.drl_limits.proofs.Common.{◌≡◌, drop, sum_by, weight, left_of}
use Rattle.drl_limits.proofs.room.behind_parts.Given as goal

abbrev pub invariant-loop-part : goal.invariant-loop-part
invariant-loop-part l = left_of l.left (sum_by weight (drop l.part-index l.parts)) ≡ left_of l.room (sum_by weight l.parts)
