use Rattle.session.proofs.Common.{◌≡◌, ◌∙◌, ◌≤◌, ◌==◌, ◌&&◌, ◌||◌, List, length, take, sym, ap, subst, arith, take_all, Row, has, Match, has_match, RuleChange}
use Rattle.session.proofs.Common.{comes_by, next_taken, one_come}
use Rattle.session.proofs.restoring.matches_of.Goals as goal

pub loop-change-preserved : goal.loop-change-preserved
loop-change-preserved c =
    let taken : List RuleChange = take c.loop-change.change-index c.args.changes.now in
    let change = c.change-item.result in
    subst (λ (cs : List RuleChange). (m : Match) → has_match c.add_matches.new.matches.keys m ≡ comes_by cs m)
    (sym (next_taken c.args.changes.now c.loop-change.change-index change c.loop-change-test.true c.change-item.is))
    (λ m.
    c.in_ok-add_matches.ensures m
    ∙ ap (λ (rows : List Row). has_match c.loop-change.matches.keys m || (change.rule.0 == m.rule.0 && has rows m.row)) c.as_slice.ensures
    ∙ ap (λ b. b || (change.rule.0 == m.rule.0 && has change.delta.come m.row)) (c.loop-change.invariant m)
    ∙ sym (one_come taken change m))

pub returns : goal.returns
returns c =
    let over : length c.args.changes.now ≤ c.loop-change.change-index = omega arith in
    subst (λ (cs : List RuleChange). (m : Match) → has_match c.loop-change.matches.keys m ≡ comes_by cs m) (take_all c.loop-change.change-index c.args.changes.now over) c.loop-change.invariant
