use Rattle.fold_fn.proofs.{Common.{arith, SFits, w64, to_z-of_z, ints}, TotalLemmas.{sum_fits, totals_take_back}}
use Rattle.fold_fn.proofs.totals.Totals.take_back.Goals as goal

pub overflow_sub-self-2 : goal.overflow_sub-self-2
overflow_sub-self-2 c = let f = sum_fits c.self.inside.values c.self.inside.count c.self.inside.sum c.self.invariant in let g = c.from.ensures in omega (arith, ints)

pub invariant_of-self : goal.invariant_of-self
invariant_of-self c =
    let fits : SFits w64 c.args.value = c.ranges.value in
    let f = sum_fits c.self.inside.values c.self.inside.count c.self.inside.sum c.self.invariant in
    totals_take_back c.self.inside.values c.take_back.new.self c.self.inside.count c.self.inside.sum _ c.args.value c.self.invariant
    (simp to_z-of_z at c.take_back.ensures) (omega (arith, ints))
