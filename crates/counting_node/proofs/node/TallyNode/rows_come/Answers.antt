use Rattle.counting_node.proofs.{Common.{◌∙◌, ◌+◌, take, eq_by_cmp, has, row_cmp, same_equiv, has_left, more_more}, Following.{rows_more}, Parts.{part_then}}
use Rattle.counting_node.proofs.Parts.{arrive_then}
use Rattle.counting_node.proofs.node.TallyNode.rows_come.Goals as goal

pub loop-row-preserved : goal.loop-row-preserved
loop-row-preserved g c =
    let look = g.F.Facts.map c.args.facts.now in
    let m = c.args.self.now.memories in
    let n = c.loop-row.self.memories in
    let z = c.row_comes.new.self.memories in
    let rows = c.args.rows.now in
    let i = c.loop-row.row-index in
    let row = c.row-item.result in
    record {
      turned = part_then _ _ _ m n z look _ _ _ _ _ _ _ _ _ c.loop-row.invariant.turned c.in_ok-row_comes.ensures.turned
          (λ r. more_more (eq_by_cmp row_cmp) same_equiv.symm rows i c.loop-row-test.true row row c.row-item.is r (has_left m look r) (has_left n look r) (c.loop-row.invariant.turned.keeps.rows r))
          c.loop-row.invariant.turned.keeps.names
          (arrive_then (g.T.Tally.holds c.args.plan.now) look m n z _ c.loop-row.invariant.turned.keeps (has (take i rows)) (eq_by_cmp row_cmp row) (has (take (i + 1) rows)) (rows_more rows i row c.loop-row-test.true c.row-item.is));
      right = c.in_ok-row_comes.ensures.right ∙ c.loop-row.invariant.right;
    }
