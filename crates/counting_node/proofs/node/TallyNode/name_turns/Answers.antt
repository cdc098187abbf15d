use Rattle.counting_node.proofs.Common.{◌∙◌, ap, subst, fun_ext, Bool, List, Row, has, has_left, has_right, shown, PartStep, AllTurned}
use Rattle.counting_node.proofs.node.TallyNode.name_turns.Goals as goal

pub returns-clause-turned : goal.returns-clause-turned
returns-clause-turned g c =
    let look = g.F.Facts.map c.args.facts.now in
    let m = c.args.self.now.memories in
    subst (λ (turning : Row → Bool). PartStep (shown g.T.Tally.origin g.T.Tally.gives (g.T.Tally.output c.args.plan.now)) (AllTurned (g.T.Tally.holds c.args.plan.now) look c.args.comes c.args.who turning) m c.turn_all.new.self.memories look
    (has_left m look) (has_right m look) c.args.change.now c.turn_all.new.change)
    (fun_ext (λ r. ap (λ (rows : List Row). has rows r) c.as_slice.ensures.value ∙ c.in_ok-rows.ensures.rows c.sight-sight.ensures r)) c.in_ok-turn_all.ensures.turned
