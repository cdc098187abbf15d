use Rattle.row_change.proofs.{Common.{◌∙◌, sym}, Placing.{above_last, less_of}}
use Rattle.row_change.proofs.row_set.is_above.Goals as goal

pub returns-in-Some : goal.returns-in-Some
returns-in-Some c is order =
    above_last c.args.rows.now c.args.row.now c.in-Some.last.now order c.in-Some.ensures.item.3.0 c.in-Some.ensures.item.3.1
    (sym c.cmp.ensures ∙ less_of c.cmp.result (sym c.is_lt.ensures ∙ is))
