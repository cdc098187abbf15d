use Rattle.fold_fn.proofs.{Common.{to_z-of_z, w64, SFits}, Ends.{has_entry}}
use Rattle.fold_fn.proofs.multiset.Multiset.holds.Goals as goal

pub returns : goal.returns
returns c =
    let fits : SFits w64 c.args.value = c.ranges.value in
    let found = simp to_z-of_z at c.contains_key.ensures in
    rw (found, ← c.self.view_is) (has_entry c.self.inside.times.entries c.args.value c.self.invariant)
