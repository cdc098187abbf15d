use Rattle.replay.proofs.{Common.{◌≡◌, ◌≤◌, ◌+◌, length, lines_of, lines_with}, Counted.{counted}}
use Rattle.replay.proofs.summing.lines_with.Given as goal

-- the lines that were counted and those of the rest are all of them
abbrev pub invariant-loop-rest : goal.invariant-loop-rest
invariant-loop-rest l = record {
  so_far : counted l.front l.count (lines_of l.rest) ≡ lines_with l.front l.text;
  few : l.count + length l.rest ≤ length l.text;
}

abbrev pub decreases-loop-rest : goal.decreases-loop-rest
decreases-loop-rest l = length l.rest
