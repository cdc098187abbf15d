use Rattle.join_memory.proofs.{Common.{◌∙◌, None, eq_by_cmp, row_cmp}, Keeping.{left_changed, left_keeps, some_taken}}
use Rattle.join_memory.proofs.memories.Memories.take_left.Goals as goal

pub returns-clause-left : goal.returns-clause-left
returns-clause-left g c =
    left_changed c.args.self.now (g.F.Facts.map c.args.facts.now) c.args.row.now c.value.result.now (c.value.ensures ∙ c.row_value-value.ensures) None c.take.new.self c.take.ensures.kept

pub returns-clause-keeps : goal.returns-clause-keeps
returns-clause-keeps g c =
    left_keeps c.args.self.now (g.F.Facts.map c.args.facts.now) c.args.row.now c.value.result.now (c.value.ensures ∙ c.row_value-value.ensures) None c.take.new.self c.take.ensures.kept
    _ (λ r. some_taken (eq_by_cmp row_cmp c.args.row.now r) _)
