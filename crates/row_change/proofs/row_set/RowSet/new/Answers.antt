use Rattle.row_change.proofs.Placing.{nil_order}
use Rattle.row_change.proofs.row_set.RowSet.new.Goals as goal

pub invariant_of-result : goal.invariant_of-result
invariant_of-result c = nil_order _ c.new.ensures.items
