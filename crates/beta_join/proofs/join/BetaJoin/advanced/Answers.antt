use Rattle.beta_join.proofs.Common.{made}
use Rattle.beta_join.proofs.join.BetaJoin.advanced.Goals as goal

pub returns-clause-difference : goal.returns-clause-difference
returns-clause-difference g c =
    let old = made c.args.self.now.memories (g.F.Facts.map c.args.facts.now) in
    c.in_ok-delta.ensures old (made c.rows_come.new.self.memories (g.F.Facts.map c.args.facts.now))
    (c.in_ok-rows_come.ensures.turned.leads old (c.in_ok-names_come.ensures.leads old (c.in_ok-names_leave.ensures.leads old (c.in_ok-rows_leave.ensures.turned.leads old (c.none-change.ensures old)))))
