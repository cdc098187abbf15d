use Rattle.join_memory.proofs.{Common.{◌∙◌, Some, eq_by_cmp, row_cmp}, Keeping.{left_changed, left_keeps, some_put}}
use Rattle.join_memory.proofs.memories.Memories.put_left.Goals as goal

pub returns-clause-left : goal.returns-clause-left
returns-clause-left g c =
    left_changed c.args.self.now (g.F.Facts.map c.args.facts.now) c.args.row c.in_ok-value.value (c.in_ok-value.ensures ∙ c.row_value.ensures) (Some c.args.kept) c.put.new.self c.in_ok-before.ensures.kept

pub returns-clause-keeps : goal.returns-clause-keeps
returns-clause-keeps g c =
    left_keeps c.args.self.now (g.F.Facts.map c.args.facts.now) c.args.row c.in_ok-value.value (c.in_ok-value.ensures ∙ c.row_value.ensures) (Some c.args.kept) c.put.new.self c.in_ok-before.ensures.kept
    _ (λ r. some_put (eq_by_cmp row_cmp c.args.row r) c.args.kept _)
