use Rattle.fold_fn.proofs.{Common.{arith, to_z, of_z, to_z-of_z, w64, SFits, int_cmp, IsDistinct-from_sorted}, Multisets.{one_more, count_at-le}}
use Rattle.std.proofs.lemmas.Result.{on_ok_weaker}
use Rattle.fold_fn.proofs.multiset.Multiset.add.Goals as goal

pub raise-requires-clause-room : goal.raise-requires-clause-room
raise-requires-clause-room c =
    let low = rw c.self.view_is at (count_at-le c.self.inside.times.entries (to_z w64 (of_z w64 c.args.value))) in
    omega (arith, low, c.requires)

pub returns-clause-ok : goal.returns-clause-ok
returns-clause-ok c =
    let fits : SFits w64 c.args.value = c.ranges.value in
    let ok = simp to_z-of_z at c.raise.ensures.ok in
    rw (← c.self.view_is)
    (on_ok_weaker c.raise.result (one_more c.self.inside.times.entries c.raise.new.times.entries c.args.value (IsDistinct-from_sorted int_cmp _ c.raise.ensures.was_ordered) (IsDistinct-from_sorted int_cmp _ c.raise.ensures.ordered)) ok)
