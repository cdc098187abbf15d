use Rattle.row_change.proofs.{Common.{◌∙◌, ap, Bool, ◌||◌, eq_by_cmp, row_cmp}, Parts.{seen}}
use Rattle.row_change.proofs.row_set.RowSet.put_in.Goals as goal
use Rattle.{row_change.proofs.row_set.RowSet.put_in.Goals.{in-Listed+in_ok-put-in-Listed, in-Tree+in_ok-insert-in-Tree}, fx_base.proofs.Tests.{cond_true_first}}

pub returns : goal.returns
returns c = elim c.match-self.branch [
  | in-Listed+in_ok-put-in-Listed w ↦ rw (w.self-inside-is, w.result-is) (λ r.
      w.in_ok-put-in-Listed.ensures.rows r
      ∙ ap (λ (t : Bool). t || eq_by_cmp row_cmp c.args.row r) (seen c.self.inside.form _ c.args.self.now c.self.view_is w.in-Listed.is r))
  | in-Tree+in_ok-insert-in-Tree w ↦ rw (w.self-inside-is, w.result-is) (λ r.
      w.in_ok-insert-in-Tree.ensures.updates.0 r ∙ cond_true_first _ (eq_by_cmp row_cmp c.args.row r)
      ∙ ap (λ (t : Bool). t || eq_by_cmp row_cmp c.args.row r) (seen c.self.inside.form _ c.args.self.now c.self.view_is w.in-Tree.is r))
]
