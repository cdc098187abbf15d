use Rattle.{candidate_source.proofs.{Common.{◌≡◌, Some, HaveLeft}, Moving.{lent_there, missing_none, one_moved}}, std.proofs.Common.{slice_get}}
use Rattle.std.proofs.lemmas.Result.{on_ok_weaker}
use Rattle.candidate_source.proofs.sources.Sources.forget_if_led.Goals as goal

pub returns-in-Some-get_mut-clause-moved : goal.returns-in-Some-get_mut-clause-moved
returns-in-Some-get_mut-clause-moved g c =
    let there : slice_get c.args.self.now.list.items c.in-Some.at ≡ Some c.in-Some-get_mut.source.now = lent_there c.args.self.now.list.items c.in-Some.at c.in-Some-get_mut.source c.in-Some-get_mut.ensures.item in
    on_ok_weaker c.forget.result
    (λ left apart.
    one_moved c.args.self.now apart (λ a b. HaveLeft a b (g.F.Facts.map c.args.facts.now) c.args.old.now) c.args.place (λ a b before after moved. moved.others) c.in-Some.at c.in-Some-get_mut.source.now c.forget.new.self c.forget.new.handed there
    left c.in-Some.ensures.some.0 c.in-Some.ensures.some.1) c.forget.ensures

pub returns-in-None-get_mut-clause-moved : goal.returns-in-None-get_mut-clause-moved
returns-in-None-get_mut-clause-moved g c apart =
    let one = apart.there c.args.place c.in-Some.at c.in-Some.ensures.some.0 in
    absurd (missing_none c.args.self.now.list.items c.in-Some.at one.0 one.1 c.in-None-get_mut.ensures.item)
