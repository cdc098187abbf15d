use Rattle.counting_node.proofs.{Common.{without, along, leads_alike}, Turning.{rows_were, rows_new, rows_after}}
use Rattle.counting_node.proofs.node.note.Goals as goal

pub returns : goal.returns
returns g c old now leads is_was =
    let gone = c.in_ok-gone.gone.items in
    let come = c.in_ok-come.come.items in
    leads_alike old (along (without now gone) come) _ _ _
    (c.in_ok-arrive.ensures old (without now gone)
    (c.in_ok-leave.ensures old now leads (rows_were g.T.Tally.origin g.T.Tally.gives now c.args.row.now c.args.was c.args.is is_was gone come c.in_ok-gone.ensures c.in_ok-come.ensures))
    (rows_new g.T.Tally.origin g.T.Tally.gives now c.args.row.now c.args.was c.args.is is_was gone come c.in_ok-gone.ensures c.in_ok-come.ensures))
    (rows_after g.T.Tally.origin g.T.Tally.gives now c.args.row.now c.args.was c.args.is is_was gone come c.in_ok-gone.ensures c.in_ok-come.ensures)
