use Rattle.{candidate_source.proofs.{Common.{option_map}, Resting.{begun_apart, have_turned, unhanded_empty}}, std.proofs.Common.{to_z-of_z}}
use Rattle.{std.proofs.lemmas.Result.{on_ok_weaker}, rule_model.specs.Lent.{lent}}
use Rattle.candidate_source.proofs.sources.Sources.turn.Goals as goal

pub returns-clause-turned : goal.returns-clause-turned
returns-clause-turned g c =
    let fits = c.ranges.clock in
    let moved = simp to_z-of_z at c.in_ok-turn_led.ensures.moved in
    on_ok_weaker c.put_handed.result
    (λ put apart.
    have_turned c.args.self.now apart c.turn_led.new.self c.new.result (unhanded_empty c.new.result c.new.ensures.empty) c.args.due.now.keys (g.F.Facts.map c.args.facts.now) c.args.program.now
    (lent c.args.gone.now) (option_map (λ f. f.now) c.args.come) c.args.clock
    (moved (begun_apart c.args.self.now c.new.result apart))) c.put_handed.ensures.kept

pub returns-clause-rest : goal.returns-clause-rest
returns-clause-rest g c = on_ok_weaker c.put_handed.result (λ put apart k led. ((c.in_ok-turn_led.ensures.moved (begun_apart c.args.self.now c.new.result apart)).others k led).source) c.put_handed.ensures.kept
