use Rattle.row_change.proofs.{Common.{sym}, Placing.{missing, cut_order, cut_has}}
use Rattle.row_change.proofs.row_set.take_out.Goals as goal

pub returns-in-Ok-clause-in_order : goal.returns-in-Ok-clause-in_order
returns-in-Ok-clause-in_order c =
    rw c.remove.ensures.items
    (cut_order c.args.rows.now.items c.args.row.now c.in-Ok.at (rw c.as_slice.ensures.value at c.in-Ok.ensures.at) c.requires)

pub returns-in-Ok-clause-rows : goal.returns-in-Ok-clause-rows
returns-in-Ok-clause-rows c =
    rw c.remove.ensures.items
    (cut_has c.args.rows.now.items c.args.row.now c.in-Ok.at (rw c.as_slice.ensures.value at c.in-Ok.ensures.at) c.requires)

pub returns-in-Err-clause-rows : goal.returns-in-Err-clause-rows
returns-in-Err-clause-rows c = missing c.args.rows.now.items c.args.row.now (sym (rw c.as_slice.ensures.value at c.in-Err.ensures.found))
