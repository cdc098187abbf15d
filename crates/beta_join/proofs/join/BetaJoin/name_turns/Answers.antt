use Rattle.beta_join.proofs.{Common.{on_ok_weaker}, Turns.{handed_comes, handed_goes}}
use Rattle.beta_join.proofs.join.BetaJoin.name_turns.Goals as goal

pub returns-then-comes : goal.returns-then-comes
returns-then-comes g c =
    on_ok_weaker c.arrive.result
    (λ arrive set old there leads. handed_comes c.args.self.now.memories (g.F.Facts.map c.args.facts.now) c.args.who set old c.args.change.now c.arrive.new.self c.in_ok-rows.rows.items
    (c.in_ok-rows.ensures c.sight-sight.ensures) leads c.args.comes c.if-comes.true there arrive) c.arrive.ensures

pub returns : goal.returns
returns g c =
    on_ok_weaker c.leave.result
    (λ leave set old there leads. handed_goes c.args.self.now.memories (g.F.Facts.map c.args.facts.now) c.args.who set old c.args.change.now c.leave.new.self c.in_ok-rows.rows.items
    (c.in_ok-rows.ensures c.sight-sight.ensures) leads c.args.comes c.if-comes.false there leave) c.leave.ensures
