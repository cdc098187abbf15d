use Rattle.not_node.proofs.{Common.{◌≡◌, sym, subst, true, false, int_lt, ℤ, arith, SFits, to_z, of_z, ints, w128, waits}, Pairs.{first_over}}
use Rattle.not_node.proofs.ripening.Ripening.next_moment.Goals as goal

pub returns-in-Some-clause-waits : goal.returns-in-Some-clause-waits
returns-in-Some-clause-waits c =
    let pair = c.in-Some.pair.now in
    let fits : SFits w128 pair.0 = search in
    let same : to_z w128 (of_z w128 pair.0) ≡ pair.0 = omega (arith, ints, fits) in
    (pair.1, subst (λ (at : ℤ). waits c.args.self.now.waiting.keys at pair.1 ≡ true) (sym same) c.in-Some.ensures.member)

pub returns-in-Some-clause-least : goal.returns-in-Some-clause-least
returns-in-Some-clause-least c at r h =
    let pair = c.in-Some.pair.now in
    let fits : SFits w128 pair.0 = search in
    let same : to_z w128 (of_z w128 pair.0) ≡ pair.0 = omega (arith, ints, fits) in
    let itself : int_lt pair.0 pair.0 ≡ false = grind (arith, ints) in
    subst (λ (least : ℤ). int_lt at least ≡ false) (sym same) (first_over pair at pair.0 r itself (c.in-Some.ensures.least (at, r) h))
