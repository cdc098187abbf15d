use Rattle.{rule_model.proofs.Common.{◌≡◌, ◌-ℤ◌, ℤ, to_z, of_z, sym, ◌∙◌, ap, arith, ints, is_within}, std.specs.{Prelude.{int_lt}, Int.{w128}}}
use Rattle.rule_model.proofs.program.is_young.Goals as goal

pub returns-in-Some : goal.returns-in-Some
returns-in-Some c =
    let expiry : ℤ = c.from-in-Some-2.result in
    let clock : to_z w128 (of_z w128 c.from.result) ≡ c.args.clock = omega (arith, ints, c.from.ensures) in
    let start : to_z w128 (of_z w128 c.from-in-Some.result) ≡ c.args.start = omega (arith, ints, c.from-in-Some.ensures) in
    let age : to_z w128 (of_z w128 (to_z w128 (of_z w128 c.from.result) -ℤ to_z w128 (of_z w128 c.from-in-Some.result))) ≡ (c.args.clock -ℤ c.args.start) = omega (arith, ints) in
    let given : to_z w128 (of_z w128 c.from-in-Some-2.result) ≡ c.in-Some.expiry = omega (arith, ints, c.from-in-Some-2.ensures) in
    ap (λ z. int_lt z (to_z w128 (of_z w128 c.from-in-Some-2.result))) age ∙ ap (int_lt (c.args.clock -ℤ c.args.start)) given
    ∙ ap (λ e. is_within e (c.args.clock -ℤ c.args.start)) (sym c.in-Some.is)
