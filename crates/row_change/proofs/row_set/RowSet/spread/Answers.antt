use Rattle.row_change.proofs.Placing.{nil_order}
use Rattle.row_change.proofs.row_set.RowSet.spread.Goals as goal

pub invariant_of-self : goal.invariant_of-self
invariant_of-self c = nil_order _ c.tree_of.ensures.left
