use Rattle.row_change.proofs.{Common.{sym, length}, Placing.{searched, gap_absent}}
use Rattle.row_change.proofs.row_set.place.Goals as goal

pub returns-then-is_above-clause-found : goal.returns-then-is_above-clause-found
returns-then-is_above-clause-found c =
    sym (gap_absent c.args.rows.now c.args.row.now (length c.args.rows.now) (c.is_above.ensures c.if-is_above.true c.requires))

pub returns-clause-found : goal.returns-clause-found
returns-clause-found c = (searched c.args.rows.now c.args.row.now c.requires c.binary_search.result c.binary_search.ensures.bound c.binary_search.ensures.position).found

pub returns-clause-at : goal.returns-clause-at
returns-clause-at c = (searched c.args.rows.now c.args.row.now c.requires c.binary_search.result c.binary_search.ensures.bound c.binary_search.ensures.position).at

pub returns-clause-gap : goal.returns-clause-gap
returns-clause-gap c = (searched c.args.rows.now c.args.row.now c.requires c.binary_search.result c.binary_search.ensures.bound c.binary_search.ensures.position).gap
