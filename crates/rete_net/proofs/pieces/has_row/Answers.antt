use Rattle.rete_net.proofs.Searched.{found_row, missing_row}
use Rattle.rete_net.proofs.pieces.has_row.Goals as goal

pub returns-in-Ok : goal.returns-in-Ok
returns-in-Ok c sorted =
    let rows = c.args.rows.now in
    let row = c.args.row.now in
    found_row rows row c.in-Ok.field-0 c.in-Ok.ensures.bound (c.in-Ok.ensures.ok row)

pub returns-in-Err : goal.returns-in-Err
returns-in-Err c sorted = missing_row c.args.rows.now c.args.row.now c.in-Err.field-0 sorted c.in-Err.ensures.position
