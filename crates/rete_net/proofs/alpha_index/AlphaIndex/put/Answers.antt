use Rattle.rete_net.proofs.{Common.{◌∙◌, ap, sym, inr, tests_hold, unbound, on_ok_weaker}, Ranged.{meant_parts, looked_up_still}}
use Rattle.rete_net.proofs.alpha_index.AlphaIndex.put.Goals as goal

pub returns-in-Some-range_of-clause-asked : goal.returns-in-Some-range_of-clause-asked
returns-in-Some-range_of-clause-asked c = on_ok_weaker c.put-in-Some-range_of.result (λ put f meant.
    let parts = meant_parts c.args.pattern.now f meant in
    inr (inr (put f (parts.0 ∙ sym c.from-ty.ensures) (c.in-Some-range_of.ensures f (ap (λ tests. tests_hold unbound f tests) c.as_slice-in-None.ensures ∙ parts.1))))) c.put-in-Some-range_of.ensures.put

pub returns-in-Some-range_of-clause-kept : goal.returns-in-Some-range_of-clause-kept
returns-in-Some-range_of-clause-kept c = on_ok_weaker c.put-in-Some-range_of.result (λ still. looked_up_still c.args.self.now c.put-in-Some-range_of.new.self still) c.put-in-Some-range_of.ensures.kept
