use Rattle.{std.proofs.lemmas.Result.{on_ok_weaker}, candidate_source.proofs.Resting.{begun_apart, have_forgotten, unhanded_empty}}
use Rattle.candidate_source.proofs.sources.Sources.forget.Goals as goal

pub returns-clause-forgotten : goal.returns-clause-forgotten
returns-clause-forgotten g c =
    on_ok_weaker c.put_handed.result
    (λ put apart.
    have_forgotten c.args.self.now apart c.forget_led.new.self c.new.result (unhanded_empty c.new.result c.new.ensures.empty) c.args.due.now.keys (g.F.Facts.map c.args.facts.now) c.args.old.now
    (c.in_ok-forget_led.ensures.moved (begun_apart c.args.self.now c.new.result apart))) c.put_handed.ensures.kept

pub returns-clause-rest : goal.returns-clause-rest
returns-clause-rest g c = on_ok_weaker c.put_handed.result (λ put apart k led. ((c.in_ok-forget_led.ensures.moved (begun_apart c.args.self.now c.new.result apart)).others k led).source) c.put_handed.ensures.kept
