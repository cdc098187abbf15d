use Rattle.counting_node.proofs.{Common.{◌∙◌, sym, ap, not, ◌&&◌, shown}, Turning.{shown_alike}}
use Rattle.counting_node.proofs.node.TallyNode.forget.Goals as goal

pub returns-clause-rows : goal.returns-clause-rows
returns-clause-rows g c r =
    let look = g.F.Facts.map c.args.facts.now in
    let m = c.args.self.now.memories in
    let old = shown g.T.Tally.origin g.T.Tally.gives (g.T.Tally.output c.args.plan.now) m look in
    (c.in_ok-delta.ensures old (shown g.T.Tally.origin g.T.Tally.gives (g.T.Tally.output c.args.plan.now) c.rows_leave.new.self.memories look) (c.in_ok-rows_leave.ensures.turned.leads old (c.none-change.ensures old))).leads.goes r
    ∙ ap (λ b. old r && not b) (shown_alike g.T.Tally.origin g.T.Tally.gives (g.T.Tally.output c.args.plan.now) c.rows_leave.new.self.memories c.names_drop.new.self.memories look (λ x. sym (c.in_ok-names_drop.ensures.left x)) r)

pub returns-clause-in_order : goal.returns-clause-in_order
returns-clause-in_order g c =
    let look = g.F.Facts.map c.args.facts.now in
    let old = shown g.T.Tally.origin g.T.Tally.gives (g.T.Tally.output c.args.plan.now) c.args.self.now.memories look in
    (c.in_ok-delta.ensures old (shown g.T.Tally.origin g.T.Tally.gives (g.T.Tally.output c.args.plan.now) c.rows_leave.new.self.memories look) (c.in_ok-rows_leave.ensures.turned.leads old (c.none-change.ensures old))).gone_in_order

pub returns-clause-left : goal.returns-clause-left
returns-clause-left g c r = c.in_ok-names_drop.ensures.left r ∙ c.in_ok-rows_leave.ensures.turned.tallies r
