use Rattle.candidate_source.proofs.{Common.{List, Named, subst, take_all, HaveLeft}, Turning.{none_left, left_more}}
use Rattle.candidate_source.proofs.source.Source.leave.Goals as goal

pub loop-who-init : goal.loop-who-init
loop-who-init g c = none_left c.args.self.now (g.F.Facts.map c.args.facts.now) c.args.handed.now

pub loop-who-preserved : goal.loop-who-preserved
loop-who-preserved g c =
    left_more c.args.names.now c.loop-who.who-index c.loop-who-test.true (g.F.Facts.map c.args.facts.now) c.args.self.now c.loop-who.self c.take-sight.new.self c.args.handed.now c.loop-who.handed c.hand.new.handed
    c.take-sight.result c.loop-who.invariant c.take-sight.ensures.names c.take-sight.ensures.taken c.take-sight.ensures.sight c.in_ok-hand.ensures

pub returns : goal.returns
returns g c =
    subst (λ (names : List Named). HaveLeft c.args.self.now c.loop-who.self (g.F.Facts.map c.args.facts.now) names c.args.handed.now c.loop-who.handed) (take_all c.loop-who.who-index c.args.names.now c.loop-who-test.false) c.loop-who.invariant
