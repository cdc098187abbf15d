use Rattle.join_memory.proofs.{Common.{◌∙◌, sym, ap, Some, is_some, eq_by_cmp, row_cmp, same_value, at, has_left}, Joining.{row_decides}}
use Rattle.join_memory.proofs.Keeping.{left_changed, left_keeps, some_exchanged}
use Rattle.join_memory.proofs.memories.Memories.exchange_left.Goals as goal

pub returns-in-Ok-clause-left : goal.returns-in-Ok-clause-left
returns-in-Ok-clause-left g c =
    left_changed c.args.self.now (g.F.Facts.map c.args.facts.now) c.args.row.now c.value.result.now (c.value.ensures ∙ c.row_value-value.ensures) (Some c.args.kept) c.exchange.new.self c.in-Ok.ensures.kept

pub returns-in-Ok-clause-keeps : goal.returns-in-Ok-clause-keeps
returns-in-Ok-clause-keeps g c =
    let look = g.F.Facts.map c.args.facts.now in
    let m = c.args.self.now in
    let is = c.value.ensures ∙ c.row_value-value.ensures in
    left_keeps m look c.args.row.now c.value.result.now is (Some c.args.kept) c.exchange.new.self c.in-Ok.ensures.kept
    _ (λ r. some_exchanged (eq_by_cmp row_cmp c.args.row.now r) c.args.kept _ (λ e. ap (has_left m look) (sym ((row_decides c.args.row.now r).0 e)) ∙ ap is_some (ap (λ v. at same_value row_cmp m.left v c.args.row.now) (sym is) ∙ c.in-Ok.ensures.before)))
