use Rattle.fold_fn.proofs.{Common.{arith, ap, SFits, w64, to_z-of_z, length, ints}, TotalLemmas.{sum_fits, totals_add}}
use Rattle.fold_fn.proofs.totals.Totals.add.Goals as goal

pub overflow_add-self-2 : goal.overflow_add-self-2
overflow_add-self-2 c = let f = sum_fits c.self.inside.values c.self.inside.count c.self.inside.sum c.self.invariant in let g = c.from.ensures in omega (arith, ints)

pub invariant_of-self-2 : goal.invariant_of-self-2
invariant_of-self-2 c =
    let fits : SFits w64 c.args.value = c.ranges.value in
    let f = sum_fits c.self.inside.values c.self.inside.count c.self.inside.sum c.self.invariant in
    let few = ap length c.self.view_is in
    totals_add c.self.inside.values c.add.new.self c.self.inside.count c.self.inside.sum _ c.args.value c.self.invariant fits
    (omega (arith, c.requires)) (simp to_z-of_z at c.in_ok-add.ensures.ok) (omega (arith, ints))
