use Rattle.session.proofs.Common.{◌≡◌, ◌≤◌, ◌==◌, ◌&&◌, ◌||◌, ◌++◌, [], ◌∷◌, List, length, take, refl, sym, subst, arith, take_all, Row, has, Match, has_match}
use Rattle.session.proofs.Common.{next_taken, none_yet, one_added}
use Rattle.session.proofs.restoring.add_matches.Goals as goal

pub loop-row-init : goal.loop-row-init
loop-row-init c m = none_yet (has_match c.args.matches.now.keys m) (c.args.rule.0 == m.rule.0)

pub loop-row-preserved : goal.loop-row-preserved
loop-row-preserved c =
    let old = c.args.matches.now.keys in
    let taken : List Row = take c.loop-row.row-index c.args.rows.now in
    let n : Match = record { rule = c.args.rule; row = c.in_ok-copy.copy } in
    let one = one_added c.args.rule.0 old c.loop-row.matches.keys c.insert.new.self.keys taken n refl c.in_ok-insert.ensures.updates.0 c.loop-row.invariant in
    subst (λ (rows : List Row). (m : Match) → has_match c.insert.new.self.keys m ≡ (has_match old m || (c.args.rule.0 == m.rule.0 && has rows m.row)))
    (sym (next_taken c.args.rows.now c.loop-row.row-index c.row-item.result c.loop-row-test.true c.row-item.is))
    (subst (λ (r : Row). (m : Match) → has_match c.insert.new.self.keys m ≡ (has_match old m || (c.args.rule.0 == m.rule.0 && has (taken ++ r ∷ []) m.row))) c.in_ok-copy.ensures one)

pub returns : goal.returns
returns c =
    let over : length c.args.rows.now ≤ c.loop-row.row-index = omega arith in
    subst (λ (rows : List Row). (m : Match) → has_match c.loop-row.matches.keys m ≡ (has_match c.args.matches.now.keys m || (c.args.rule.0 == m.rule.0 && has rows m.row)))
    (take_all c.loop-row.row-index c.args.rows.now over) c.loop-row.invariant
