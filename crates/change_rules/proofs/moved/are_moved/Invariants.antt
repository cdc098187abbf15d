use Rattle.change_rules.proofs.Common.{map, take, ◌≡◌}
use Rattle.change_rules.proofs.moved.are_moved.Given as goal

abbrev pub invariant-loop-place : goal.invariant-loop-place
invariant-loop-place g l = take l.place l.theirs ≡ take l.place (map (g.T.Moved.moved l.old l.new) l.ours)
