use Rattle.row_change.proofs.{Common.{◌≡◌, ◌||◌, subst, List, has, Row}, Parts.{one_in}}
use Rattle.row_change.proofs.row_set.RowSet.insert_all.Goals as goal

pub loop-row-preserved : goal.loop-row-preserved
loop-row-preserved c row =
    one_in c.loop-row.self.keys c.insert.new.self.keys c.next.new.self.rest.items c.in-Some.row row _ (c.in_ok-insert.ensures row)
    (subst (λ (rows : List Row). (has c.loop-row.self.keys row || has rows row) ≡ (has c.args.self.now.keys row || has c.args.rows.items row)) c.in-Some.ensures.steps.0 (c.loop-row.invariant row))
