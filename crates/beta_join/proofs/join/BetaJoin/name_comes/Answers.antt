use Rattle.beta_join.proofs.{Common.{◌∙◌, sym, ap, is_some, on_ok_weaker, seen_after, if_not}, Turns.{name_arrives, no_name_arrives}}
use Rattle.beta_join.proofs.join.BetaJoin.name_comes.Goals as goal

pub returns-in_ok-rows-in-Some : goal.returns-in_ok-rows-in-Some
returns-in_ok-rows-in-Some g c =
    let look = g.F.Facts.map c.args.facts.now in
    let m = c.args.self.now.memories in
    let keeps = c.in_ok-sight.ensures.keeps in
    on_ok_weaker c.arrive.result
    (name_arrives m c.put_right.new.self look c.args.who c.args.change.now c.arrive.new.self c.in_ok-rows-in-Some.rows.items
    keeps (if_not _ _ (sym c.in_ok-sight.ensures.came ∙ ap is_some c.in-Some.is))
    (c.in_ok-rows-in-Some.ensures (seen_after m.pattern c.put_right.new.self.pattern look c.args.who c.in_ok-sight.field-0 c.in-Some.sight c.in_ok-sight.ensures.sight c.in-Some.is keeps.pattern))) c.arrive.ensures

pub returns-in-None : goal.returns-in-None
returns-in-None g c =
    no_name_arrives c.args.self.now.memories c.put_right.new.self (g.F.Facts.map c.args.facts.now) c.args.who c.args.change.now
    c.in_ok-sight.ensures.keeps (if_not _ _ (sym c.in_ok-sight.ensures.came ∙ ap is_some c.in-None.is))
