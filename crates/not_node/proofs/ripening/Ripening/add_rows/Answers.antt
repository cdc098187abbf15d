use Rattle.not_node.proofs.Common.{to_z, of_z, ◌∙◌, ap, not, ◌&&◌, ◌||◌, take, int_lt, w128, eq_by_cmp, row_cmp, has, rows_more, moment_at, waits}
use Rattle.not_node.proofs.{Common.{is_that_moment}, Pairs.{add_more}}
use Rattle.not_node.proofs.ripening.Ripening.add_rows.Goals as goal

pub loop-row-preserved : goal.loop-row-preserved
loop-row-preserved g c at r =
    let rows = c.args.rows.now in
    let i = c.loop-row.row-index in
    let row = c.row-item.result in
    let m = is_that_moment (moment_at c.args.program.now c.args.pattern.now (g.F.Facts.map c.args.facts.now) r) at in
    let w = waits c.args.self.now.waiting.keys at r in
    let l = int_lt at (to_z w128 (of_z w128 c.args.floor)) in
    c.in_ok-add_row.ensures at r ∙ ap (λ b. b || ((eq_by_cmp row_cmp row r && m) && not l)) (c.loop-row.invariant at r)
    ∙ add_more w (has (take i rows) r) (eq_by_cmp row_cmp row r) m l ∙ ap (λ b. w || ((b && m) && not l)) (rows_more rows i row c.loop-row-test.true c.row-item.is r)
