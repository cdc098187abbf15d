use Rattle.join_memory.proofs.{Common.{◌∙◌, Some, ap, cond, ◌&&◌, eq_by_cmp, same_value, at, row_cmp, is_some, beside}, Keeping.{left_keeps, some_put}}
use Rattle.{join_memory.proofs.{Keeping.{at_changed}, Joining.{row_decides}, Sharing.{value_beside}}, join_tests.specs.RowKeys.{value_by}}
use Rattle.join_memory.proofs.left_rows.LeftRows.put.Goals as goal

pub returns-clause-keeps : goal.returns-clause-keeps
returns-clause-keeps g c candidates is =
    let look = g.F.Facts.map c.args.facts.now in
    left_keeps (beside c.args.self.now candidates) look c.args.row.now c.in_ok-value.value (c.in_ok-value.ensures ∙ c.row_value.ensures ∙ value_beside c.args.self.now candidates look c.args.row.now is)
    (Some tt) c.put.new.self
    (λ v r. c.in_ok-before.ensures.kept v r ∙ ap (λ k. cond (same_value c.in_ok-value.value v && eq_by_cmp row_cmp k r) (Some tt) (at same_value row_cmp c.args.self.now.rows v r)) c.in_ok-copy.ensures)
    _ (λ r. some_put (eq_by_cmp row_cmp c.args.row.now r) tt _)

pub returns-clause-rows : goal.returns-clause-rows
returns-clause-rows g c r =
    let look = g.F.Facts.map c.args.facts.now in
    let row = c.args.row.now in
    let old = at same_value row_cmp c.args.self.now.rows in
    ap is_some (at_changed (eq_by_cmp row_cmp) (λ a b. (row_decides a b).0) (value_by c.args.self.now.key look) row c.in_ok-value.value old (at same_value row_cmp c.put.new.self) (Some tt) (c.in_ok-value.ensures ∙ c.row_value.ensures)
    (λ v l. c.in_ok-before.ensures.kept v l ∙ ap (λ k. cond (same_value c.in_ok-value.value v && eq_by_cmp row_cmp k l) (Some tt) (old v l)) c.in_ok-copy.ensures) r)
    ∙ some_put (eq_by_cmp row_cmp row r) tt _
