use Rattle.beta_join.proofs.{Common.{◌∙◌, sym, ap, is_some, on_ok_weaker, seen_after}, Turns.{name_goes, no_name_goes}}
use Rattle.beta_join.proofs.join.BetaJoin.name_leaves.Goals as goal

pub returns-in_ok-rows-in-Some : goal.returns-in_ok-rows-in-Some
returns-in_ok-rows-in-Some g c =
    let look = g.F.Facts.map c.args.facts.now in
    let m = c.args.self.now.memories in
    let keeps = c.take_right.ensures.keeps in
    on_ok_weaker c.leave.result
    (name_goes m c.take_right.new.self look c.args.who c.args.change.now c.leave.new.self c.in_ok-rows-in-Some.rows.items
    keeps (sym c.take_right.ensures.taken ∙ ap is_some c.in-Some.is)
    (c.in_ok-rows-in-Some.ensures (seen_after m.pattern c.take_right.new.self.pattern look c.args.who c.take_right.result c.in-Some.sight c.take_right.ensures.sight c.in-Some.is keeps.pattern))) c.leave.ensures

pub returns-in-None : goal.returns-in-None
returns-in-None g c =
    no_name_goes c.args.self.now.memories c.take_right.new.self (g.F.Facts.map c.args.facts.now) c.args.who c.args.change.now
    c.take_right.ensures.keeps (sym c.take_right.ensures.taken ∙ ap is_some c.in-None.is)
