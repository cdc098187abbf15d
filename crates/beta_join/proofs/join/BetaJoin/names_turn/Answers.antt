use Rattle.beta_join.proofs.Turns.{none_turned, one_turned, all_turned}
use Rattle.beta_join.proofs.join.BetaJoin.names_turn.Goals as goal

pub loop-who-init : goal.loop-who-init
loop-who-init g c = none_turned c.args.self.now.memories (g.F.Facts.map c.args.facts.now) c.args.comes c.args.names.now c.args.change.now

pub loop-who-preserved : goal.loop-who-preserved
loop-who-preserved g c =
    one_turned c.args.self.now.memories (g.F.Facts.map c.args.facts.now) c.args.comes c.args.names.now c.loop-who.who-index c.loop-who-test.true
    c.args.change.now c.loop-who.change c.name_turns.new.change c.loop-who.invariant c.in_ok-name_turns.ensures

pub returns : goal.returns
returns g c =
    all_turned c.args.self.now.memories (g.F.Facts.map c.args.facts.now) c.args.comes c.args.names.now c.loop-who.who-index c.loop-who-test.false
    c.args.change.now c.loop-who.change c.loop-who.invariant
