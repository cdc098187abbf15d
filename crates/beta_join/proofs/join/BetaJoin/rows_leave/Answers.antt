use Rattle.beta_join.proofs.{Common.{◌∙◌, eq_by_cmp, row_cmp, same_equiv, has_left, less_more}, Turns.{turned_then}}
use Rattle.beta_join.proofs.join.BetaJoin.rows_leave.Goals as goal

pub loop-row-preserved : goal.loop-row-preserved
loop-row-preserved g c =
    let look = g.F.Facts.map c.args.facts.now in
    record {
      turned = turned_then c.args.self.now.memories c.loop-row.self.memories c.row_leaves.new.self.memories look _ _ _ _ _ _ c.args.change.now c.loop-row.change c.row_leaves.new.change
          c.loop-row.invariant.turned c.in_ok-row_leaves.ensures.turned
          (λ r. less_more (eq_by_cmp row_cmp) same_equiv.symm c.args.rows.now c.loop-row.row-index c.loop-row-test.true c.row-item.result c.row-item.result c.row-item.is r (has_left c.args.self.now.memories look r) (has_left c.loop-row.self.memories look r) (c.loop-row.invariant.turned.keeps.rows r))
          c.loop-row.invariant.turned.keeps.names;
      right = c.in_ok-row_leaves.ensures.right ∙ c.loop-row.invariant.right;
    }
