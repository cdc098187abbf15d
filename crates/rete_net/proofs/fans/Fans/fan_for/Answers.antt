use Rattle.{rete_net.proofs.{Common.{◌∙◌, ap, List, ◌++◌, ◌∷◌, [], slice_get, Fan}, Seated.{fan_grows}}, fx_base.proofs.Sequences.{get-last}}
use Rattle.rete_net.proofs.fans.Fans.fan_for.Goals as goal

pub returns-in_ok-put_fan-in-None-clause-grows : goal.returns-in_ok-put_fan-in-None-clause-grows
returns-in_ok-put_fan-in-None-clause-grows c =
    let put = c.in_ok-put_fan-in-None.ensures in
    record {
      spans = put.spans;
      grows = λ was. fan_grows c.args.nodes.now c.args.from c.args.self.now c.put_fan.new.self c.args.key put.list.0 put.list.1 put.list.2 put.seats put.spans was;
    }

pub returns-in_ok-put_fan-in-None-clause-fan : goal.returns-in_ok-put_fan-in-None-clause-fan
returns-in_ok-put_fan-in-None-clause-fan c =
    let put = c.in_ok-put_fan-in-None.ensures in
    let list = c.args.self.now.list.items in
    let last = c.len-fan.ensures ∙ c.args.self.now.list.ok.0 in
    record {
      one = put.list.0;
      found = ap (λ (l : List Fan). slice_get l c.len-fan.result) put.list.1 ∙ ap (slice_get (list ++ put.list.0 ∷ [])) last ∙ get-last list put.list.0;
      same = put.list.2.same;
    }
