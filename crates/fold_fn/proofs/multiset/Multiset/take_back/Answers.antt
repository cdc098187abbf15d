use Rattle.fold_fn.proofs.{Common.{to_z-of_z, w64, SFits, sym, ◌∙◌, int_cmp, IsDistinct-from_sorted}, Multisets.{one_more, count_at_from_contains}}
use Rattle.fold_fn.proofs.multiset.Multiset.take_back.Goals as goal

pub lower-requires-clause-held : goal.lower-requires-clause-held
lower-requires-clause-held c =
    let fits : SFits w64 c.args.value = c.ranges.value in
    simp to_z-of_z (count_at_from_contains c.self.inside.times.entries c.args.value c.self.invariant (rw c.self.view_is c.requires))

pub returns : goal.returns
returns c =
    let fits : SFits w64 c.args.value = c.ranges.value in
    let one = simp to_z-of_z at c.lower.ensures.one in
    sym c.self.view_is
    ∙ one_more c.lower.new.times.entries c.self.inside.times.entries c.args.value (IsDistinct-from_sorted int_cmp _ c.lower.ensures.ordered) (IsDistinct-from_sorted int_cmp _ c.lower.ensures.was_ordered) one
