use Rattle.candidate_source.proofs.{Common.{◌||◌, List, Named, subst, take_all, has_name, has_candidate, KeepsNames}, Turning.{kept_more, kept_more_none}}
use Rattle.candidate_source.proofs.source.put_all.Goals as goal

pub loop-who-init : goal.loop-who-init
loop-who-init g c = kept_more_none c.args.own.now (g.F.Facts.map c.args.facts.now)

pub loop-who-preserved : goal.loop-who-preserved
loop-who-preserved g c =
    kept_more c.args.names.now c.loop-who.who-index c.loop-who-test.true (g.F.Facts.map c.args.facts.now) c.args.own.now c.loop-who.own c.put.new.self c.loop-who.invariant c.in_ok-put.ensures.names

pub returns : goal.returns
returns g c =
    subst (λ (names : List Named). KeepsNames c.args.own.now c.loop-who.own (g.F.Facts.map c.args.facts.now) (λ who. has_candidate c.args.own.now (g.F.Facts.map c.args.facts.now) who || has_name names who))
    (take_all c.loop-who.who-index c.args.names.now c.loop-who-test.false) c.loop-who.invariant
