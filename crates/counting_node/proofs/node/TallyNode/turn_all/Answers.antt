use Rattle.counting_node.proofs.{Common.{◌∙◌, ◌+◌, subst, take, eq_by_cmp, has, row_cmp, has_left, has_right, shown, PartStep, AllTurned}, Following.{take_all}}
use Rattle.counting_node.proofs.{Following.{rows_more, rows_apart}, Parts.{part_then, turned_then}}
use Rattle.counting_node.proofs.node.TallyNode.turn_all.Goals as goal

pub loop-row-preserved : goal.loop-row-preserved
loop-row-preserved g c =
    let look = g.F.Facts.map c.args.facts.now in
    let m = c.args.self.now.memories in
    let n = c.loop-row.self.memories in
    let z = c.turn_at.new.self.memories in
    let rows = c.args.rows.now in
    let i = c.loop-row.row-index in
    let row = c.row-item.result in
    record {
      turned = part_then _ _ _ m n z look _ _ _ _ _ _ _ _ _ c.loop-row.invariant.turned c.in_ok-turn_at.ensures.turned c.loop-row.invariant.turned.keeps.rows c.loop-row.invariant.turned.keeps.names
          (turned_then (g.T.Tally.holds c.args.plan.now) look m n z c.args.comes c.args.who (has (take i rows)) (eq_by_cmp row_cmp row) (has (take (i + 1) rows))
          (rows_apart rows i row c.loop-row-test.true c.row-item.is c.requires) (rows_more rows i row c.loop-row-test.true c.row-item.is));
      right = c.in_ok-turn_at.ensures.right ∙ c.loop-row.invariant.right;
    }

pub returns-clause-turned : goal.returns-clause-turned
returns-clause-turned g c =
    let look = g.F.Facts.map c.args.facts.now in
    let m = c.args.self.now.memories in
    subst (λ rows. PartStep (shown g.T.Tally.origin g.T.Tally.gives (g.T.Tally.output c.args.plan.now)) (AllTurned (g.T.Tally.holds c.args.plan.now) look c.args.comes c.args.who (has rows)) m c.loop-row.self.memories look
    (has_left m look) (has_right m look) c.args.change.now c.loop-row.change)
    (take_all c.args.rows.now c.loop-row.row-index c.loop-row-test.false) c.loop-row.invariant.turned
