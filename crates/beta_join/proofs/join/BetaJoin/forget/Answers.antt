use Rattle.beta_join.proofs.Common.{made}
use Rattle.beta_join.proofs.join.BetaJoin.forget.Goals as goal

pub returns-clause-dropped : goal.returns-clause-dropped
returns-clause-dropped g c =
    let old = made c.args.self.now.memories (g.F.Facts.map c.args.facts.now) in
    (c.in_ok-delta.ensures old (made c.names_leave.new.self.memories (g.F.Facts.map c.args.facts.now))
    (c.in_ok-names_leave.ensures.leads old (c.in_ok-rows_leave.ensures.turned.leads old (c.none-change.ensures old)))).leads.goes

pub returns-clause-in_order : goal.returns-clause-in_order
returns-clause-in_order g c =
    let old = made c.args.self.now.memories (g.F.Facts.map c.args.facts.now) in
    (c.in_ok-delta.ensures old (made c.names_leave.new.self.memories (g.F.Facts.map c.args.facts.now))
    (c.in_ok-names_leave.ensures.leads old (c.in_ok-rows_leave.ensures.turned.leads old (c.none-change.ensures old)))).gone_in_order
