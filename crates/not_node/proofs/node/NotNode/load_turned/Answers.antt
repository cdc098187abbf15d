use Rattle.not_node.proofs.Common.{◌∙◌, sym, subst, IsDifference, Pattern, moment_at, unblocked, not_rows, AwaitsMoments, ripe}
use Rattle.not_node.proofs.node.NotNode.load_turned.Goals as goal

pub returns-clause-in_step : goal.returns-clause-in_step
returns-clause-in_step g c awaits =
    let look = g.F.Facts.map c.args.facts.now in
    let p = c.args.program.now in
    let old = c.args.self.now in
    let n = c.load_turned.new.self.memories in
    let gate = c.advance.new.self in
    let before = subst (λ (q : Pattern). AwaitsMoments (moment_at p q look) old.ripening.floor (unblocked old.tally.memories look) old.ripening.waiting.keys) (sym (c.pattern.ensures ∙ c.in_ok-counted.ensures.kept.pattern)) awaits in
    subst (λ (q : Pattern). AwaitsMoments (moment_at p q look) gate.floor (unblocked n look) gate.waiting.keys) c.pattern.ensures
    (c.in_ok-delta.ensures.awaits (unblocked old.tally.memories look) (unblocked n look) before c.in_ok-counted.ensures.difference.leads)

pub returns-clause-difference : goal.returns-clause-difference
returns-clause-difference g c awaits =
    let look = g.F.Facts.map c.args.facts.now in
    let p = c.args.program.now in
    let old = c.args.self.now in
    let n = c.load_turned.new.self.memories in
    let gate = c.advance.new.self in
    let here = c.pattern.result.now in
    let kept = c.pattern.ensures ∙ c.in_ok-counted.ensures.kept.pattern in
    let before = subst (λ (q : Pattern). AwaitsMoments (moment_at p q look) old.ripening.floor (unblocked old.tally.memories look) old.ripening.waiting.keys) (sym kept) awaits in
    subst (λ (q : Pattern). IsDifference (not_rows p look old) (ripe (moment_at p q look) gate.floor (unblocked n look)) c.in_ok-delta.delta) c.pattern.ensures
    (subst (λ (q : Pattern). IsDifference (ripe (moment_at p q look) old.ripening.floor (unblocked old.tally.memories look)) (ripe (moment_at p here look) gate.floor (unblocked n look)) c.in_ok-delta.delta) kept
    (c.in_ok-delta.ensures.difference (unblocked old.tally.memories look) (unblocked n look) before c.in_ok-counted.ensures.difference.leads))
