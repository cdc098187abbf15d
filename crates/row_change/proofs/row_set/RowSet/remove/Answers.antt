use Rattle.row_change.proofs.{Common.{◌∙◌, sym, ap, Bool, ◌&&◌, not, eq_by_cmp, row_cmp}, Parts.{taken_out, seen}}
use Rattle.row_change.proofs.row_set.RowSet.remove.Goals as goal
use Rattle.row_change.proofs.row_set.RowSet.remove.Goals.{in-Listed, in-Tree}

pub returns : goal.returns
returns c = elim c.match-self.branch [
  | in-Listed w ↦ rw w.self-inside-is (λ r.
      w.take_out.ensures.rows r
      ∙ ap (λ (t : Bool). t && not (eq_by_cmp row_cmp c.args.row.now r)) (seen c.self.inside.form _ c.args.self.now c.self.view_is w.in-Listed.is r))
  | in-Tree w ↦ rw w.self-inside-is (λ r.
      w.remove.ensures.updates.0 r ∙ sym (taken_out _ (eq_by_cmp row_cmp c.args.row.now r))
      ∙ ap (λ (t : Bool). t && not (eq_by_cmp row_cmp c.args.row.now r)) (seen c.self.inside.form _ c.args.self.now c.self.view_is w.in-Tree.is r))
]
