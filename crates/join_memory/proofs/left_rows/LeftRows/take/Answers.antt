use Rattle.join_memory.proofs.{Common.{◌∙◌, ap, None, is_some, eq_by_cmp, same_value, at, row_cmp, beside}, Keeping.{left_keeps, some_taken, at_changed}}
use Rattle.{join_memory.proofs.{Joining.{row_decides}, Sharing.{value_beside}}, join_tests.specs.RowKeys.{value_by}}
use Rattle.join_memory.proofs.left_rows.LeftRows.take.Goals as goal

pub returns-clause-keeps : goal.returns-clause-keeps
returns-clause-keeps g c candidates is =
    let look = g.F.Facts.map c.args.facts.now in
    left_keeps (beside c.args.self.now candidates) look c.args.row.now c.value.result.now (c.value.ensures ∙ c.row_value-value.ensures ∙ value_beside c.args.self.now candidates look c.args.row.now is)
    None c.take.new.self c.take.ensures.kept _ (λ r. some_taken (eq_by_cmp row_cmp c.args.row.now r) _)

pub returns-clause-rows : goal.returns-clause-rows
returns-clause-rows g c r =
    ap is_some (at_changed (eq_by_cmp row_cmp) (λ a b. (row_decides a b).0) (value_by c.args.self.now.key (g.F.Facts.map c.args.facts.now)) c.args.row.now c.value.result.now
    (at same_value row_cmp c.args.self.now.rows) (at same_value row_cmp c.take.new.self) None (c.value.ensures ∙ c.row_value-value.ensures) c.take.ensures.kept r)
    ∙ some_taken (eq_by_cmp row_cmp c.args.row.now r) _
