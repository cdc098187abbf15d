use Rattle.{beta_join.proofs.{Common.{made, sharing, keeps_shared}, Turns.{handed_leave}}, join_memory.proofs.Handed.{forgone_handed}}
use Rattle.beta_join.proofs.join.BetaJoin.forget_turned.Goals as goal

pub returns-clause-kept : goal.returns-clause-kept
returns-clause-kept g c was old forgoes =
    keeps_shared c.args.self.now.memories c.rows_leave.new.self.memories was (g.F.Facts.map c.args.facts.now) _ _ forgoes.agrees forgoes.names c.in_ok-rows_leave.ensures.turned.keeps

pub returns-clause-dropped : goal.returns-clause-dropped
returns-clause-dropped g c was old forgoes =
    let m = c.args.self.now.memories in
    let look = g.F.Facts.map c.args.facts.now in
    let rows = made (sharing m was) look in
    (c.in_ok-delta.ensures rows (made c.rows_leave.new.self.memories look)
    (c.in_ok-rows_leave.ensures.turned.leads rows (handed_leave m look was c.args.gone.now (forgone_handed m was look old c.args.gone.now forgoes) rows _ _ c.in_ok-names_turn.ensures (c.none-change.ensures rows)))).leads.goes

pub returns-clause-in_order : goal.returns-clause-in_order
returns-clause-in_order g c was old forgoes =
    let m = c.args.self.now.memories in
    let look = g.F.Facts.map c.args.facts.now in
    let rows = made (sharing m was) look in
    (c.in_ok-delta.ensures rows (made c.rows_leave.new.self.memories look)
    (c.in_ok-rows_leave.ensures.turned.leads rows (handed_leave m look was c.args.gone.now (forgone_handed m was look old c.args.gone.now forgoes) rows _ _ c.in_ok-names_turn.ensures (c.none-change.ensures rows)))).gone_in_order
