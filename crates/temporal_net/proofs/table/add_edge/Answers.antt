use Rattle.temporal_net.proofs.{Common.{◌∙◌, ap, cell, lesser, edge_at}, Places.{added_rows}}
use Rattle.temporal_net.proofs.table.add_edge.Goals as goal

pub returns : goal.returns
returns c =
    let e = edge_at c.args.edges.now c.args.number in
    let is = c.least.ensures ∙ ap (lesser (cell c.args.rows.now e.x e.y)) c.of_edge.ensures in
    added_rows c.args.edges.now c.args.number c.args.rows.now c.least.result c.requires.known c.requires.table c.requires.among c.requires.small c.requires.turn c.told-rows is
