use Rattle.session.proofs.Common.{◌≡◌, take, Match, has_match, comes_by}
use Rattle.session.proofs.restoring.matches_of.Given as goal

abbrev pub invariant-loop-change : goal.invariant-loop-change
invariant-loop-change l = (m : Match) → has_match l.matches.keys m ≡ comes_by (take l.change-index l.changes) m
