use Rattle.{std.proofs.Common.{◌&&◌, ◌==◌, ◌||◌, ◌≡◌}, row_delta.specs.Rows.{has}, rule_model.specs.{declared.matched.Match.{Match}, Matches.{has_match}}}
use Rattle.image_making.proofs.laden.add_matches.Given as goal

abbrev pub invariant-loop-row : goal.invariant-loop-row
invariant-loop-row l =
    (m : Match) → (has_match l.matches.keys m || (l.rule.0 == m.rule.0 && has l.row-iterator.rest.items m.row))
    ≡ (has_match l.fn.matches.keys m || (l.rule.0 == m.rule.0 && has l.fn.rows.items m.row))
