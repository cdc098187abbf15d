use Rattle.not_node.proofs.Common.{◌≡◌, ◌∙◌, sym, ap, subst, List, [], to_z-of_z, SFits, w128, Row, has, LeadsRows, IsDifference, Pattern, moment_at, unblocked}
use Rattle.not_node.proofs.{Common.{not_rows, AwaitsMoments, ripe, later}, Lawful.{none_comes, later_same}}
use Rattle.not_node.proofs.node.NotNode.forget.Goals as goal

pub returns-clause-floor : goal.returns-clause-floor
returns-clause-floor g c =
    let fits : SFits w128 c.floor-floor.result = search in
    let is = simp to_z-of_z at c.in_ok-delta.ensures.floor in
    is ∙ ap (later c.args.self.now.ripening.floor) c.floor-floor.ensures ∙ later_same c.args.self.now.ripening.floor

pub returns-clause-in_step : goal.returns-clause-in_step
returns-clause-in_step g c awaits =
    let look = g.F.Facts.map c.args.facts.now in
    let p = c.args.program.now in
    let old = c.args.self.now in
    let n = c.forget.new.self.memories in
    let gate = c.advance.new.self in
    let kept = c.pattern.ensures ∙ c.in_ok-gone.ensures.kept.pattern in
    let before = subst (λ (q : Pattern). AwaitsMoments (moment_at p q look) old.ripening.floor (unblocked old.tally.memories look) old.ripening.waiting.keys) (sym kept) awaits in
    let empty : c.from_vec.result ≡ [] = search in
    let leads : LeadsRows (unblocked old.tally.memories look) (unblocked n look) c.in_ok-gone.gone c.from_vec.result =
    record { goes = c.in_ok-gone.ensures.rows; comes = λ r. ap (λ (xs : List Row). has xs r) empty ∙ none_comes old.tally.memories n look (has c.args.rows.now) c.in_ok-gone.ensures.left r } in
    subst (λ (q : Pattern). AwaitsMoments (moment_at p q look) gate.floor (unblocked n look) gate.waiting.keys) c.pattern.ensures
    (c.in_ok-delta.ensures.awaits (unblocked old.tally.memories look) (unblocked n look) before leads)

pub returns-clause-in_order : goal.returns-clause-in_order
returns-clause-in_order g c awaits =
    let look = g.F.Facts.map c.args.facts.now in
    let p = c.args.program.now in
    let old = c.args.self.now in
    let n = c.forget.new.self.memories in
    let gate = c.advance.new.self in
    let kept = c.pattern.ensures ∙ c.in_ok-gone.ensures.kept.pattern in
    let before = subst (λ (q : Pattern). AwaitsMoments (moment_at p q look) old.ripening.floor (unblocked old.tally.memories look) old.ripening.waiting.keys) (sym kept) awaits in
    let empty : c.from_vec.result ≡ [] = search in
    let leads : LeadsRows (unblocked old.tally.memories look) (unblocked n look) c.in_ok-gone.gone c.from_vec.result =
    record { goes = c.in_ok-gone.ensures.rows; comes = λ r. ap (λ (xs : List Row). has xs r) empty ∙ none_comes old.tally.memories n look (has c.args.rows.now) c.in_ok-gone.ensures.left r } in
    (subst (λ (q : Pattern). IsDifference (not_rows p look old) (ripe (moment_at p q look) gate.floor (unblocked n look)) c.in_ok-delta.delta) c.pattern.ensures
    (subst (λ (q : Pattern). IsDifference (ripe (moment_at p q look) old.ripening.floor (unblocked old.tally.memories look)) (ripe (moment_at p c.pattern.result.now look) gate.floor (unblocked n look)) c.in_ok-delta.delta) kept
    (c.in_ok-delta.ensures.difference (unblocked old.tally.memories look) (unblocked n look) before leads))).gone_in_order

pub returns-clause-rows : goal.returns-clause-rows
returns-clause-rows g c awaits =
    let look = g.F.Facts.map c.args.facts.now in
    let p = c.args.program.now in
    let old = c.args.self.now in
    let n = c.forget.new.self.memories in
    let gate = c.advance.new.self in
    let kept = c.pattern.ensures ∙ c.in_ok-gone.ensures.kept.pattern in
    let before = subst (λ (q : Pattern). AwaitsMoments (moment_at p q look) old.ripening.floor (unblocked old.tally.memories look) old.ripening.waiting.keys) (sym kept) awaits in
    let empty : c.from_vec.result ≡ [] = search in
    let leads : LeadsRows (unblocked old.tally.memories look) (unblocked n look) c.in_ok-gone.gone c.from_vec.result =
    record { goes = c.in_ok-gone.ensures.rows; comes = λ r. ap (λ (xs : List Row). has xs r) empty ∙ none_comes old.tally.memories n look (has c.args.rows.now) c.in_ok-gone.ensures.left r } in
    (subst (λ (q : Pattern). IsDifference (not_rows p look old) (ripe (moment_at p q look) gate.floor (unblocked n look)) c.in_ok-delta.delta) c.pattern.ensures
    (subst (λ (q : Pattern). IsDifference (ripe (moment_at p q look) old.ripening.floor (unblocked old.tally.memories look)) (ripe (moment_at p c.pattern.result.now look) gate.floor (unblocked n look)) c.in_ok-delta.delta) kept
    (c.in_ok-delta.ensures.difference (unblocked old.tally.memories look) (unblocked n look) before leads))).leads.goes
