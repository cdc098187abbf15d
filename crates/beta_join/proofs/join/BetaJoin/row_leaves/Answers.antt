use Rattle.beta_join.proofs.{Common.{◌∙◌, sym, ap, is_some, on_ok_weaker}, Turns.{row_goes, no_row_goes}}
use Rattle.beta_join.proofs.join.BetaJoin.row_leaves.Goals as goal

pub returns-in_ok-rows-in-Some-clause-turned : goal.returns-in_ok-rows-in-Some-clause-turned
returns-in_ok-rows-in-Some-clause-turned g c =
    on_ok_weaker c.leave.result
    (row_goes c.args.self.now.memories c.take_left.new.self (g.F.Facts.map c.args.facts.now) c.args.row.now c.args.change.now c.leave.new.self c.in_ok-rows-in-Some.rows.items
    c.take_left.ensures.keeps (ap is_some (sym c.take_left.ensures.taken ∙ c.in-Some.is)) c.in_ok-rows-in-Some.ensures) c.leave.ensures

pub returns-in-None-clause-turned : goal.returns-in-None-clause-turned
returns-in-None-clause-turned g c =
    no_row_goes c.args.self.now.memories c.take_left.new.self (g.F.Facts.map c.args.facts.now) c.args.row.now c.args.change.now
    c.take_left.ensures.keeps (ap is_some (sym c.take_left.ensures.taken ∙ c.in-None.is))
