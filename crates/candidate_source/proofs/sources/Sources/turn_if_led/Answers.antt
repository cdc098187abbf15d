use Rattle.candidate_source.{proofs.{Common.{◌≡◌, Some, option_map}, Moving.{ok_both, lent_there, missing_none, one_moved}}, specs.Moving.{TurnStep}}
use Rattle.{std.proofs.Common.{slice_get, to_z-of_z}, rule_model.specs.Lent.{lent}}
use Rattle.candidate_source.proofs.sources.Sources.turn_if_led.Goals as goal

pub returns-in-Some-get_mut-clause-moved : goal.returns-in-Some-get_mut-clause-moved
returns-in-Some-get_mut-clause-moved g c =
    let there : slice_get c.args.self.now.list.items c.in-Some.at ≡ Some c.in-Some-get_mut.source.now = lent_there c.args.self.now.list.items c.in-Some.at c.in-Some-get_mut.source c.in-Some-get_mut.ensures.item in
    let fits = c.ranges.clock in
    ok_both c.turn.result
    (λ turned others apart.
    one_moved c.args.self.now apart (TurnStep c.args.program.now (lent c.args.gone.now) (option_map (λ f. f.now) c.args.come) c.args.clock (g.F.Facts.map c.args.facts.now)) c.args.place (λ a b before after moved. moved.others) c.in-Some.at c.in-Some-get_mut.source.now c.turn.new.self c.turn.new.handed there
    (record { turned = turned; others = others }) c.in-Some.ensures.some.0 c.in-Some.ensures.some.1) (simp to_z-of_z at c.turn.ensures.turned) c.turn.ensures.others

pub returns-in-None-get_mut-clause-moved : goal.returns-in-None-get_mut-clause-moved
returns-in-None-get_mut-clause-moved g c apart =
    let one = apart.there c.args.place c.in-Some.at c.in-Some.ensures.some.0 in
    absurd (missing_none c.args.self.now.list.items c.in-Some.at one.0 one.1 c.in-None-get_mut.ensures.item)
