use Rattle.row_change.proofs.{Common.{sym}, Placing.{present, gap_order, gap_has}}
use Rattle.row_change.proofs.row_set.put.Goals as goal

pub returns-in-Ok-clause-rows : goal.returns-in-Ok-clause-rows
returns-in-Ok-clause-rows c = present c.args.rows.now.items c.args.row (sym (rw c.as_slice.ensures.value at c.in-Ok.ensures.found))

pub returns-in_ok-insert-in-Err-clause-in_order : goal.returns-in_ok-insert-in-Err-clause-in_order
returns-in_ok-insert-in-Err-clause-in_order c =
    rw c.in_ok-insert-in-Err.ensures.items
    (gap_order c.args.rows.now.items c.args.row c.in-Err.at (rw c.as_slice.ensures.value at c.in-Err.ensures.gap) c.requires)

pub returns-in_ok-insert-in-Err-clause-rows : goal.returns-in_ok-insert-in-Err-clause-rows
returns-in_ok-insert-in-Err-clause-rows c =
    rw c.in_ok-insert-in-Err.ensures.items
    (gap_has c.args.rows.now.items c.args.row c.in-Err.at (rw c.as_slice.ensures.value at c.in-Err.ensures.gap))
