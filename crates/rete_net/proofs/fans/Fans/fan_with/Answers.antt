use Rattle.rete_net.proofs.Common.{◌∙◌, sym, ap, ◌<◌, arith, length, Some, slice_get-get_or}
use Rattle.rete_net.proofs.fans.Fans.fan_with.Goals as goal

pub returns-then-is_same-clause-fan : goal.returns-then-is_same-clause-fan
returns-then-is_same-clause-fan c =
    let len = c.len-fan-end.ensures ∙ c.args.self.now.list.ok.0 in
    let lt = c.loop-fan-test.true in
    let within : c.loop-fan.fan < length c.args.self.now.list.items = omega (arith, len, lt) in
    record {
      one = c.index.result.now;
      found = slice_get-get_or c.args.self.now.list.items c.loop-fan.fan c.index.result.now within ∙ ap Some (sym c.index.ensures);
      same = sym c.key.ensures ∙ c.is_same.ensures.0 c.if-is_same.true;
    }
