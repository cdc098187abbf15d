use Rattle.not_node.proofs.{Common.{◌∙◌, ap, not, ◌&&◌, take, eq_by_cmp, row_cmp, has, rows_more, moment_at, waits, is_that_moment}, Pairs.{drop_more}}
use Rattle.not_node.proofs.ripening.Ripening.drop_rows.Goals as goal

pub loop-row-preserved : goal.loop-row-preserved
loop-row-preserved g c at r =
    let rows = c.args.rows.now in
    let i = c.loop-row.row-index in
    let row = c.row-item.result in
    let m = is_that_moment (moment_at c.args.program.now c.args.pattern.now (g.F.Facts.map c.args.facts.now) r) at in
    let w = waits c.args.self.now.waiting.keys at r in
    c.in_ok-drop_row.ensures at r ∙ ap (λ b. b && not (eq_by_cmp row_cmp row r && m)) (c.loop-row.invariant at r)
    ∙ drop_more w (has (take i rows) r) (eq_by_cmp row_cmp row r) m ∙ ap (λ b. w && not (b && m)) (rows_more rows i row c.loop-row-test.true c.row-item.is r)
