use Rattle.candidate_source.proofs.{Common.{List, Named, subst, take_all, HaveCome}, Turning.{none_came, come_more}}
use Rattle.candidate_source.proofs.source.Source.come.Goals as goal

pub loop-who-init : goal.loop-who-init
loop-who-init g c = none_came c.args.self.now (g.F.Facts.map c.args.facts.now) c.args.handed.now

pub loop-who-preserved : goal.loop-who-preserved
loop-who-preserved g c =
    come_more c.args.names.now c.loop-who.who-index c.loop-who-test.true (g.F.Facts.map c.args.facts.now) c.args.self.now c.loop-who.self c.put.new.self c.args.handed.now c.loop-who.handed c.hand.new.handed
    c.in_ok-sight.sight c.loop-who.invariant c.in_ok-sight.ensures.names c.in_ok-sight.ensures.came c.in_ok-sight.ensures.sight c.in_ok-hand.ensures

pub returns : goal.returns
returns g c =
    subst (λ (names : List Named). HaveCome c.args.self.now c.loop-who.self (g.F.Facts.map c.args.facts.now) names c.args.handed.now c.loop-who.handed) (take_all c.loop-who.who-index c.args.names.now c.loop-who-test.false) c.loop-who.invariant
