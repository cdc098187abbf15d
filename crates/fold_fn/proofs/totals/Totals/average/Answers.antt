use Rattle.fold_fn.proofs.Common.{arith, w64, length, ◌<◌, ◌≡◌, Some, pos, sym, ap, ◌∙◌, to_z, of_z, ints, total, floor_quotient, w128}
use Rattle.fold_fn.proofs.TotalLemmas.{sum_fits, average_fits, average-some, int_div_euclid-floor}
use Rattle.fold_fn.proofs.totals.Totals.average.Goals as goal

some_values : (c : goal.After-div_euclid) → 0 < length c.self.inside.values
some_values c = omega (arith, c.self.invariant.counted, c.if-self-eq0.false)

-- the quotient is the floor
floor_is : (c : goal.After-div_euclid) → c.div_euclid.result ≡ floor_quotient (total c.self.inside.values) (length c.self.inside.values)
floor_is c =
    let f = sum_fits c.self.inside.values c.self.inside.count c.self.inside.sum c.self.invariant in
    let few = c.self.invariant.few in
    let dividend : to_z w128 (of_z w128 c.self.inside.sum) ≡ total c.self.inside.values = omega (arith, ints, c.self.invariant.summed) in
    let divisor : to_z w128 (of_z w128 c.from.result) ≡ pos (length c.self.inside.values) = omega (arith, ints, c.self.invariant.counted, c.from.ensures) in
    rw (dividend, divisor) at c.div_euclid.ensures ∙ int_div_euclid-floor (total c.self.inside.values) (length c.self.inside.values)

pub overflow_cast-result : goal.overflow_cast-result
overflow_cast-result c =
    let fits = average_fits c.self.inside.values c.self.invariant.fit (some_values c) in
    let is = floor_is c in
    omega (arith, ints)

pub returns : goal.returns
returns c =
    let fits = average_fits c.self.inside.values c.self.invariant.fit (some_values c) in
    let is = floor_is c in
    let cast : to_z w64 (of_z w64 (to_z w128 (of_z w128 c.div_euclid.result))) ≡ floor_quotient (total c.self.inside.values) (length c.self.inside.values) = omega (arith, ints) in
    rw (← c.self.view_is) (ap Some cast ∙ sym (average-some c.self.inside.values (some_values c)))
