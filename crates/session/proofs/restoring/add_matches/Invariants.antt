use Rattle.session.proofs.Common.{◌≡◌, ◌==◌, ◌&&◌, ◌||◌, take, has, Match, has_match}
use Rattle.session.proofs.restoring.add_matches.Given as goal

abbrev pub invariant-loop-row : goal.invariant-loop-row
invariant-loop-row l = (m : Match) → has_match l.matches.keys m ≡ (has_match l.fn.matches.keys m || (l.rule.0 == m.rule.0 && has (take l.row-index l.rows) m.row))
