use Rattle.change_rules.proofs.{Common.{IsCountedAnew, ap, arith, below_more, length, place_in, rules, ℕ}, Longer.{type_within}}
use Rattle.change_rules.proofs.counted.first_counted_anew.Goals as goal

pub loop-ty-preserved : goal.loop-ty-preserved
loop-ty-preserved c = below_more (λ (k : ℕ). IsCountedAnew c.args.old.now c.args.new.now (place_in c.args.places.now) c.args.table.now k → ⊥) c.loop-ty.ty c.loop-ty.invariant (search rules)

pub returns : goal.returns
returns c = λ ty h.
    let long = ap length c.as_slice-ty-end.ensures in
    let within = type_within c.args.old.now c.args.new.now ty h.there h.was in
    c.loop-ty.invariant ty (omega (arith, within, long)) h
