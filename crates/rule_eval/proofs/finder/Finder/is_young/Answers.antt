use Rattle.{rule_eval.proofs.Common.{◌≡◌, ◌-ℤ◌, to_z, of_z, ◌∙◌, ap, arith, w128, ints}, std.specs.Prelude.{int_lt}}
use Rattle.rule_eval.proofs.finder.Finder.is_young.Goals as goal

pub returns : goal.returns
returns c =
    let clock : to_z w128 (of_z w128 c.from.result) ≡ c.args.self.now.moment.now.clock = omega (arith, ints, c.from.ensures) in
    let start : to_z w128 (of_z w128 c.from-2.result) ≡ c.args.fact.now.times.start = omega (arith, ints, c.from-2.ensures) in
    let age : to_z w128 (of_z w128 (to_z w128 (of_z w128 c.from.result) -ℤ to_z w128 (of_z w128 c.from-2.result))) ≡ (c.args.self.now.moment.now.clock -ℤ c.args.fact.now.times.start) = omega (arith, ints) in
    let given : to_z w128 (of_z w128 c.from-3.result) ≡ c.args.span = omega (arith, ints, c.from-3.ensures) in
    ap (λ z. int_lt z (to_z w128 (of_z w128 c.from-3.result))) age ∙ ap (int_lt (c.args.self.now.moment.now.clock -ℤ c.args.fact.now.times.start)) given
