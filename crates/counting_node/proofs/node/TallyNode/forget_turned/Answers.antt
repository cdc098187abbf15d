use Rattle.counting_node.proofs.Common.{shown}
use Rattle.counting_node.proofs.node.TallyNode.forget_turned.Goals as goal

pub returns-clause-rows : goal.returns-clause-rows
returns-clause-rows g c =
    let look = g.F.Facts.map c.args.facts.now in
    let rows = shown g.T.Tally.origin g.T.Tally.gives (g.T.Tally.output c.args.plan.now) in
    let old = rows c.args.self.now.memories look in
    (c.in_ok-delta.ensures old (rows c.rows_leave.new.self.memories look) (c.in_ok-rows_leave.ensures.turned.leads old (c.none-change.ensures old))).leads.goes

pub returns-clause-in_order : goal.returns-clause-in_order
returns-clause-in_order g c =
    let look = g.F.Facts.map c.args.facts.now in
    let rows = shown g.T.Tally.origin g.T.Tally.gives (g.T.Tally.output c.args.plan.now) in
    let old = rows c.args.self.now.memories look in
    (c.in_ok-delta.ensures old (rows c.rows_leave.new.self.memories look) (c.in_ok-rows_leave.ensures.turned.leads old (c.none-change.ensures old))).gone_in_order
