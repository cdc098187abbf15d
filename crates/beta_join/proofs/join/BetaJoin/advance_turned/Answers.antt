use Rattle.{beta_join.proofs.{Common.{refl, made, sharing}, Turns.{handed_lead}}, join_memory.proofs.Handed.{stepped_shared}}
use Rattle.beta_join.proofs.join.BetaJoin.advance_turned.Goals as goal

pub returns-clause-kept : goal.returns-clause-kept
returns-clause-kept g c was right takes =
    let m = c.args.self.now.memories in
    stepped_shared m m c.rows_leave.new.self.memories c.rows_come.new.self.memories was (g.F.Facts.map c.args.facts.now) c.args.left.now right _ _ _ _ c.as_slice.ensures c.as_slice-2.ensures takes
    (record { pattern = refl; rows = λ r. refl; names = λ x. refl; agrees = λ before. before }) c.in_ok-rows_leave.ensures.turned.keeps c.in_ok-rows_come.ensures.turned.keeps

pub returns-clause-difference : goal.returns-clause-difference
returns-clause-difference g c was right takes =
    let m = c.args.self.now.memories in
    let look = g.F.Facts.map c.args.facts.now in
    let old = made (sharing m was) look in
    c.in_ok-delta.ensures old (made c.rows_come.new.self.memories look)
    (c.in_ok-rows_come.ensures.turned.leads old (c.in_ok-rows_leave.ensures.turned.leads old
    (handed_lead m look was c.args.gone.now c.args.come.now takes.handed old _ _ _ c.in_ok-names_turn.ensures c.in_ok-names_turn-2.ensures (c.none-change.ensures old))))
